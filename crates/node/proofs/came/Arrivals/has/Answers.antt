use Rattle.std.proofs.Common.{◌∙◌, List, ap, arith, drop, length, sym, unwrap_or}
use Rattle.std.specs.List.{list_any}
use Rattle.std.specs.Map.{lookup}
use Rattle.cw_types.specs.Same.{same_commitment}
use Rattle.cw_types.specs.declared.block.Context.{Context}
use Rattle.cw_types.proofs.Ordered.{found_same}
use Rattle.node.specs.Holding.{is_whole}
use Rattle.node.specs.declared.arrival.Arrival.{Arrival}
use Rattle.node.proofs.Placing.{stands_behind, stands_nowhere}
use Rattle.node.proofs.came.Arrivals.has.Goals as goal

pub stands_from-requires : goal.stands_from-requires
stands_from-requires c =
    let b = c.args.block.now in
    let xs = c.self.inside.list.items in
    let es = c.self.inside.children.entries in
    let found =
    c.in-Some.ensures.value
    ∙ (found_same es c.context.result.now.parent
    ∙ ap (λ (x : Context). lookup (same_commitment x.parent) es) c.context.ensures) in
    let at = ap (λ o. unwrap_or o (length xs)) found in
    let within = (c.self.invariant.children b).within in
    let count = ap length c.deref.ensures.value in
    omega (arith, at, within, count)

pub returns-in-Some : goal.returns-in-Some
returns-in-Some c =
    let b = c.args.block.now in
    let xs = c.self.inside.list.items in
    let es = c.self.inside.children.entries in
    let found =
    c.in-Some.ensures.value
    ∙ (found_same es c.context.result.now.parent
    ∙ ap (λ (x : Context). lookup (same_commitment x.parent) es) c.context.ensures) in
    let at = ap (λ o. unwrap_or o (length xs)) found in
    c.stands_from.ensures
    ∙ (ap (λ (l : List Arrival). list_any (is_whole b) (drop c.in-Some.place.now l))
    c.deref.ensures.value
    ∙ (ap (λ n. list_any (is_whole b) (drop n xs)) at
    ∙ (stands_behind xs es b (c.self.invariant.children b)
    ∙ ap (list_any (is_whole b)) c.self.view_is)))

pub returns-in-None : goal.returns-in-None
returns-in-None c =
    let b = c.args.block.now in
    let xs = c.self.inside.list.items in
    let es = c.self.inside.children.entries in
    let none =
    c.in-None.ensures.value
    ∙ (found_same es c.context.result.now.parent
    ∙ ap (λ (x : Context). lookup (same_commitment x.parent) es) c.context.ensures) in
    sym (stands_nowhere xs es b (c.self.invariant.children b) (sym none))
    ∙ ap (list_any (is_whole b)) c.self.view_is
