use Rattle.std.proofs.Common.{◌≡◌, ℕ, Bool, true, ap, sym, ◌∙◌}
use Rattle.cw_types.specs.Epochs.{Epochs}
use Rattle.cw_types.specs.declared.event.StepOut.{StepOut}
use Rattle.cw_rules.specs.Step.{Member, start}
use Rattle.cw_rules.specs.declared.travel.Travel.{Travel}
use Rattle.cw_rules_coded.specs.Coded.{ruled}
use Rattle.hail_world.specs.MemoryNodes.{out_of}
use Rattle.node_disk.specs.MemoryLaws.{calm_stays}
use Rattle.hail_world.proofs.turn.restart.Goals as goal

pub returns-clause-started : goal.returns-clause-started
returns-clause-started g c frames held =
    let h = c.in_ok-live_node.ensures frames held in
    let x : Epochs = c.in_ok-committees.committees in
    let who =
    ap
    (λ (x : Epochs).
    (start (ruled g.W.Way.travel g.H.Hasher.digest_of x c.backlog.result (λ b a. true)) c.args.id
    frames).member)
    c.in_ok-committees.ensures
    ∙ ap
    (λ (k : ℕ).
    (start (ruled g.W.Way.travel g.H.Hasher.digest_of c.args.script.now.committees k (λ b a. true))
    c.args.id frames).member)
    c.backlog.ensures.value
    ∙ ap
    (λ (t : Travel).
    (start (ruled t g.H.Hasher.digest_of c.args.script.now.committees c.args.script.now.backlog
    (λ b a. true))
    c.args.id frames).member)
    (sym c.requires.way) in
    let what =
    ap
    (λ (x : Epochs). out_of
    (start (ruled g.W.Way.travel g.H.Hasher.digest_of x c.backlog.result (λ b a. true)) c.args.id
    frames))
    c.in_ok-committees.ensures
    ∙ ap
    (λ (k : ℕ). out_of
    (start (ruled g.W.Way.travel g.H.Hasher.digest_of c.args.script.now.committees k (λ b a. true))
    c.args.id frames))
    c.backlog.ensures.value
    ∙ ap
    (λ (t : Travel). out_of
    (start (ruled t g.H.Hasher.digest_of c.args.script.now.committees c.args.script.now.backlog
    (λ b a. true))
    c.args.id frames))
    (sym c.requires.way) in
    (h.member ∙ who, h.gives ∙ what)

pub returns-clause-sound : goal.returns-clause-sound
returns-clause-sound g c =
    let h = c.in_ok-live_node.ensures c.requires.holds.0 c.requires.holds.1 in
    let who =
    ap (λ (x : Epochs). ruled g.W.Way.travel g.H.Hasher.digest_of x c.backlog.result (λ b a. true))
    c.in_ok-committees.ensures
    ∙ ap (λ (k : ℕ). ruled g.W.Way.travel g.H.Hasher.digest_of c.args.script.now.committees k
    (λ b a. true))
    c.backlog.ensures.value
    ∙ ap (λ (t : Travel). ruled t g.H.Hasher.digest_of c.args.script.now.committees
    c.args.script.now.backlog (λ b a. true))
    (sym c.requires.way) in
    (h.rules ∙ who, h.number, h.works, calm_stays _ _ h.went_on c.requires.calm)
