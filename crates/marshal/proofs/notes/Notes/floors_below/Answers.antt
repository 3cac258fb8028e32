use Rattle.std.proofs.Common.{nat_lt, ap, sym, true, ◌∙◌}
use Rattle.std.specs.List.{filter_map}
use Rattle.std.specs.Option.{option_map_or}
use Rattle.cw_rules.specs.Held.{floor_height}
use Rattle.note_scans.proofs.Folds.{all_below}
use Rattle.marshal.proofs.notes.Notes.floors_below.Goals as goal

pub returns-in-Some : goal.returns-in-Some
returns-in-Some g c =
    ap (λ o. option_map_or (λ h. nat_lt h c.args.height) o true)
    (sym c.in-Some.is ∙ c.floor.ensures)
    ∙ sym (all_below c.args.height (filter_map floor_height c.args.self.now))
