use Rattle.std.proofs.Common.{sym, ◌∙◌}
use Rattle.node.proofs.Settling.{settling_done, settling_falls, settling_more, settling_none, settling_owes, settling_rests}
use Rattle.node.specs.Holding.{own_state, rules_of}
use Rattle.node.proofs.holding.Holding.settle.Goals as goal

pub settling-init : goal.settling-init
settling-init g c =
    settling_none g.H.Hasher.digest_of g.A.Application.accepts c.args.self.now c.requires.stands

pub settling-preserved : goal.settling-preserved
settling-preserved g c =
    let old = c.args.self.now in
    let r = rules_of g.H.Hasher.digest_of g.A.Application.accepts old in
    settling_more g.H.Hasher.digest_of g.A.Application.accepts old c.settling.self c.write.new.self
    c.settling.invariant c.in-Some.note
    (c.bound_laws.ensures.settles r old.id (own_state old))
    (sym c.in_ok-note.ensures.value ∙ c.in-Some.is) c.in_ok-write.ensures.ok

pub settling-smaller : goal.settling-smaller
settling-smaller g c =
    let old = c.args.self.now in
    let r = rules_of g.H.Hasher.digest_of g.A.Application.accepts old in
    settling_falls g.H.Hasher.digest_of g.A.Application.accepts old c.settling.self c.write.new.self
    c.settling.invariant c.in-Some.note
    (c.bound_laws.ensures.settles r old.id (own_state old))
    (sym c.in_ok-note.ensures.value ∙ c.in-Some.is) c.in_ok-write.ensures.ok

pub returns-clause-ok : goal.returns-clause-ok
returns-clause-ok g c =
    settling_done g.H.Hasher.digest_of g.A.Application.accepts c.args.self.now c.settling.self
    c.settling.invariant
    (sym c.in_ok-note.ensures.value ∙ c.in_default.is)

pub returns-clause-rests : goal.returns-clause-rests
returns-clause-rests g c =
    settling_rests g.H.Hasher.digest_of g.A.Application.accepts c.settling.self
    (sym c.in_ok-note.ensures.value ∙ c.in_default.is)

pub owed-requires-clause-last : goal.owed-requires-clause-last
owed-requires-clause-last g c κs within =
    settling_owes g.H.Hasher.digest_of g.A.Application.accepts c.args.self.now c.settling.self
    c.settling.invariant c.requires.last
