use Rattle.std.proofs.Common.{◌∙◌, List, ap, is_some}
use Rattle.std.specs.List.{list_any}
use Rattle.cw_types.proofs.Ordered.{found_same}
use Rattle.cw_types.specs.declared.note.Note.{Note}
use Rattle.marshal.specs.Reach.{is_final}
use Rattle.marshal.proofs.Placing.{position_has}
use Rattle.marshal.proofs.notes.Notes.is_finalized.Goals as goal

pub returns : goal.returns
returns g c =
    let d = c.args.commitment.now in
    c.contains_key.ensures
    ∙ (ap is_some
    (found_same c.self.inside.index.finals.entries d ∙ c.self.invariant.indexed.finalized d)
    ∙ (position_has (is_final d) c.self.inside.notes.items
    ∙ ap (λ (notes : List Note). list_any (is_final d) notes) c.self.view_is))
