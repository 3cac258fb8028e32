use Rattle.std.proofs.Common.{◌∙◌, ap, is_some}
use Rattle.cw_types.proofs.Ordered.{found_same}
use Rattle.cw_rules.specs.Notes.{has_block, is_block}
use Rattle.marshal.proofs.Placing.{position_has}
use Rattle.marshal.proofs.notes.Notes.has_block.Goals as goal

pub returns : goal.returns
returns g c =
    let d = c.args.commitment.now in
    c.contains_key.ensures
    ∙ (ap is_some
    (found_same c.self.inside.index.places.entries d ∙ c.self.invariant.indexed.placed d)
    ∙ (position_has (is_block d) c.self.inside.notes.items
    ∙ ap (λ notes. has_block notes d) c.self.view_is))
