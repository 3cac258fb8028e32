use Rattle.std.proofs.Common.{sym, ◌∙◌, ap, []}
use Rattle.cw_rules.specs.Step.{start}
use Rattle.node.proofs.Working.{at_work}
use Rattle.node.specs.Holding.{Holding, rules_of}
use Rattle.node.proofs.member.Member.start.Goals as goal

pub returns-in-Ok-open-clause-start : goal.returns-in-Ok-open-clause-start
returns-in-Ok-open-clause-start g c =
    let rules =
    sym
    (ap
    (λ (k : Holding g.row.D.Denot g.row.A.Denot). rules_of g.H.Hasher.digest_of
    g.A.Application.accepts k)
    c.in-Ok-open.ensures.kept) in
    let id = ap (λ (k : Holding g.row.D.Denot g.row.A.Denot). k.id) c.in-Ok-begin.ensures.value in
    c.in-Ok-open.ensures.start ∙ (λ i. start (rules i) (id i) (sym c.in-Ok-open.ensures.frames i))

pub returns-in-Ok-open-clause-at_work : goal.returns-in-Ok-open-clause-at_work
returns-in-Ok-open-clause-at_work g c =
    let h = c.open.new.self in
    let running = c.in-Ok-open.ensures.awake.ready.stands.running in
    at_work g.D.Disk.state h running c.rests.ensures.running c.rests.ensures.frames
    c.rests.ensures.readable
    (c.rests.ensures.settled running) (c.rests.ensures.still running [])
