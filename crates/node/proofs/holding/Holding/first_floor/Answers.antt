use Rattle.std.proofs.Common.{sym, ◌∙◌, ap, option_map}
use Rattle.cw_types.specs.declared.note.Note.{Note}
use Rattle.cw_rules.specs.Owed.{floor_owed}
use Rattle.cw_rules.proofs.Lists.{first_here, first_next}
use Rattle.node.specs.Holding.{own_state, rules_of}
use Rattle.node.proofs.holding.Holding.first_floor.Goals as goal

pub returns-in-Some-clause-value : goal.returns-in-Some-clause-value
returns-in-Some-clause-value g c =
    let h = c.args.self.now in
    let f = floor_owed (rules_of g.H.Hasher.digest_of g.A.Application.accepts h) (own_state h)
    in
    first_here f c.args.wishes.now c.loop-wish.wish-index c.wish-item.result
    (Note.Floor c.in-Some.height) c.loop-wish-test.true c.wish-item.is
    (sym c.floor_for.ensures.value ∙ ap (option_map Note.Floor) c.in-Some.is) c.loop-wish.invariant

pub loop-wish-preserved : goal.loop-wish-preserved
loop-wish-preserved g c =
    let h = c.args.self.now in
    let f = floor_owed (rules_of g.H.Hasher.digest_of g.A.Application.accepts h) (own_state h)
    in
    first_next f c.args.wishes.now c.loop-wish.wish-index c.wish-item.result c.loop-wish-test.true
    c.wish-item.is
    (sym c.floor_for.ensures.value ∙ ap (option_map Note.Floor) c.in_default.is)
    c.loop-wish.invariant
