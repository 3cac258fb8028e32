use Rattle.std.proofs.Common.{◌∙◌, ◌++◌, ◌∷◌, [], List, ap, length, subst, sym}
use Rattle.node.specs.Arriving.{HasFirstsUnder}
use Rattle.node.specs.Holding.{shown_under}
use Rattle.node.specs.declared.arrival.Shown.{Shown}
use Rattle.node.proofs.Placing.{one_placed, shown_is}
use Rattle.node.proofs.came.ShownBlocks.push.Goals as goal

pub invariant_of-self-2 : goal.invariant_of-self-2
invariant_of-self-2 c =
    let x = c.args.shown in
    let xs = c.self.inside.list.items in
    let new = c.put_first.new.places.entries in
    let same = ap (λ (l : List Shown). l ++ x ∷ []) c.in_ok-reserve.ensures.items in
    subst (λ (l : List Shown). HasFirstsUnder shown_under l new)
    (sym (c.push_reserved.ensures.items ∙ same))
    (one_placed shown_under xs c.self.inside.places.entries new x.commitment c.len.result x
    c.self.invariant c.in_ok-put_first.ensures.ok
    (c.len.ensures ∙ (c.reserve.new.self.ok.0 ∙ ap length c.in_ok-reserve.ensures.items)) (shown_is x))
