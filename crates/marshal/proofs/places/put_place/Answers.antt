use Rattle.std.proofs.Common.{◌++◌, ◌∷◌, [], refl, subst, sym}
use Rattle.cw_types.specs.Order.{commitment_cmp}
use Rattle.cw_types.specs.OrderLaws.{commitments_tie}
use Rattle.cw_types.specs.Same.{same_commitment}
use Rattle.cw_types.specs.declared.note.Note.{Note}
use Rattle.cw_rules.specs.Notes.{is_block}
use Rattle.marshal.specs.Placed.{HasPlaces}
use Rattle.marshal.proofs.Placing.{kept_first, kept_so}
use Rattle.marshal.proofs.places.put_place.Goals as goal

pub returns-in_ok-put_first-in-Block-clause-places : goal.returns-in_ok-put_first-in-Block-clause-places
returns-in_ok-put_first-in-Block-clause-places c = λ notes has at.
    subst (λ (n : Note). HasPlaces c.put_first.new.map.entries (notes ++ n ∷ []))
    (sym c.in-Block.is)
    (kept_first same_commitment is_block c.args.places.now.entries c.put_first.new.map.entries notes
    (Note.Block c.in-Block.commitment c.in-Block.field-1) c.in-Block.commitment c.args.place
    (λ d. refl) has
    (kept_so same_commitment commitment_cmp commitments_tie c.in-Block.commitment c.args.place
    c.args.places.now.entries c.put_first.new.map.entries
    c.in_ok-put_first-in-Block.ensures.ok)
    at)
