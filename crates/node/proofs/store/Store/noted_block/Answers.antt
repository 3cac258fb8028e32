use Rattle.std.proofs.Common.{◌∙◌, List, ap, option_and_then, slice_get, sym}
use Rattle.cw_types.specs.declared.note.Note.{Note}
use Rattle.cw_types.proofs.Ordered.{found_same}
use Rattle.cw_rules.specs.Held.{noted_block_of}
use Rattle.node.proofs.Placing.{first_at_place, noted_firsts}
use Rattle.node.specs.Store.{store_of, stored_notes}
use Rattle.node.proofs.store.Store.noted_block.Goals as goal

pub returns-in-Some : goal.returns-in-Some
returns-in-Some g c =
    let m = c.args.commitment.now in
    let all = stored_notes (store_of c.args.self.now.marshal) in
    let es = c.places.result.now.entries in
    c.block_at.ensures
    ∙ (ap (λ (l : List Note). option_and_then (noted_block_of m) (slice_get l c.in-Some.place.now))
    c.notes.ensures.value
    ∙ (ap (option_and_then (λ i. option_and_then (noted_block_of m) (slice_get all i)))
    (c.in-Some.ensures.value ∙ found_same es m)
    ∙ sym (first_at_place noted_block_of all es m (noted_firsts all es c.places.ensures))))

pub returns-in-None : goal.returns-in-None
returns-in-None g c =
    let m = c.args.commitment.now in
    let all = stored_notes (store_of c.args.self.now.marshal) in
    let es = c.places.result.now.entries in
    ap (option_and_then (λ i. option_and_then (noted_block_of m) (slice_get all i)))
    (c.in-None.ensures.value ∙ found_same es m)
    ∙ sym (first_at_place noted_block_of all es m (noted_firsts all es c.places.ensures))
