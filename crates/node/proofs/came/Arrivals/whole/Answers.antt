use Rattle.std.proofs.Common.{◌∙◌, List, ap, option_and_then, slice_get, sym}
use Rattle.cw_types.proofs.Ordered.{found_same}
use Rattle.cw_rules.specs.Accepted.{first_some}
use Rattle.node.specs.Holding.{whole_under}
use Rattle.node.specs.declared.arrival.Arrival.{Arrival}
use Rattle.node.proofs.Placing.{first_at_place}
use Rattle.node.proofs.came.Arrivals.whole.Goals as goal

pub returns-in-Some : goal.returns-in-Some
returns-in-Some c =
    let m = c.args.commitment.now in
    let xs = c.self.inside.list.items in
    let es = c.self.inside.wholes.entries in
    c.whole_at.ensures
    ∙ (ap (λ (l : List Arrival). option_and_then (whole_under m) (slice_get l c.in-Some.place.now))
    c.deref.ensures.value
    ∙ (ap (option_and_then (λ i. option_and_then (whole_under m) (slice_get xs i)))
    (c.in-Some.ensures.value ∙ found_same es m)
    ∙ (sym (first_at_place whole_under xs es m c.self.invariant.wholes)
    ∙ ap (first_some (whole_under m)) c.self.view_is)))

pub returns-in-None : goal.returns-in-None
returns-in-None c =
    let m = c.args.commitment.now in
    let xs = c.self.inside.list.items in
    let es = c.self.inside.wholes.entries in
    ap (option_and_then (λ i. option_and_then (whole_under m) (slice_get xs i)))
    (c.in-None.ensures.value ∙ found_same es m)
    ∙ (sym (first_at_place whole_under xs es m c.self.invariant.wholes)
    ∙ ap (first_some (whole_under m)) c.self.view_is)
