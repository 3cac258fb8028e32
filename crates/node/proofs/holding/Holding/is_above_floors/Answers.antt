use Rattle.std.proofs.Common.{true, sym, ◌∙◌, ap, nat_lt, filter_map}
use Rattle.std.specs.Option.{option_map_or}
use Rattle.cw_rules.specs.Held.{floor_height}
use Rattle.node.proofs.Tops.{all_below}
use Rattle.node.specs.Holding.{Holding}
use Rattle.note_scans.specs.Heights.{greatest_of}
use Rattle.node.specs.Store.{stored_notes}
use Rattle.node.proofs.holding.Holding.is_above_floors.Goals as goal

pub returns-in-Some : goal.returns-in-Some
returns-in-Some g c =
    let h = c.args.self.now in
    let all = all_below c.args.height (filter_map floor_height (stored_notes h.store)) in
    let same =
    ap
    (λ (k : Holding g.row.D.Denot g.row.A.Denot). greatest_of
    (filter_map floor_height (stored_notes k.store)))
    c.self.view_is in
    let top = sym c.in-Some.is ∙ (c.greatest_floor.ensures ∙ same) in
    sym (all ∙ sym (ap (λ o. option_map_or (λ x. nat_lt x c.args.height) o true) top))
