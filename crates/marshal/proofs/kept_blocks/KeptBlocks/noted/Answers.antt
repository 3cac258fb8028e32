use Rattle.std.proofs.Common.{◌≡◌, ◌∙◌, List, None, Some, ap, option_and_then, slice_get, sym}
use Rattle.std.specs.List.{position}
use Rattle.cw_types.proofs.Ordered.{found_same}
use Rattle.cw_rules.specs.Accepted.{first_some}
use Rattle.cw_rules.specs.Held.{noted_block_of}
use Rattle.cw_rules.specs.Notes.{is_block}
use Rattle.cw_types.specs.declared.note.Note.{Note}
use Rattle.marshal.proofs.Placing.{block_at_place}
use Rattle.marshal.proofs.kept_blocks.KeptBlocks.noted.Goals as goal

pub returns-in-Some : goal.returns-in-Some
returns-in-Some c =
    let d = c.args.commitment.now in
    let notes = c.self.inside.notes.now in
    let is : position (is_block d) notes ≡ Some c.in-Some.place.now =
    sym (c.self.invariant.placed d)
    ∙ (sym (found_same c.self.inside.places.now.entries d) ∙ sym c.in-Some.ensures.value) in
    c.block_at.ensures
    ∙ (sym
    (block_at_place d notes
    ∙ ap (option_and_then (λ i. option_and_then (noted_block_of d) (slice_get notes i))) is)
    ∙ ap (λ (ns : List Note). first_some (noted_block_of d) ns) c.self.view_is)

pub returns-in-None : goal.returns-in-None
returns-in-None c =
    let d = c.args.commitment.now in
    let notes = c.self.inside.notes.now in
    let is : position (is_block d) notes ≡ None =
    sym (c.self.invariant.placed d)
    ∙ (sym (found_same c.self.inside.places.now.entries d) ∙ sym c.in-None.ensures.value) in
    sym
    (block_at_place d notes
    ∙ ap (option_and_then (λ i. option_and_then (noted_block_of d) (slice_get notes i))) is)
    ∙ ap (λ (ns : List Note). first_some (noted_block_of d) ns) c.self.view_is
