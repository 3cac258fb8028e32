-- What is verified or certified is held until it is let go.
use Rattle.std.proofs.Common.{◌≡◌, ◌≢◌, ◌⊎◌, inl, inr, ◌≤◌, true, false, List, [], ◌∷◌, ◌++◌, Option, Some, None, unwrap_or, refl, sym, ◌∙◌, ap, subst, arith, append_assoc}
use Rattle.std.specs.Option.{option_or}
use Rattle.std.proofs.lemmas.Bool.{cases_Bool, cond-false, cond-true}
use Rattle.cw_types.specs.Block.{Block}
use Rattle.cw_types.specs.Epochs.{size}
use Rattle.cw_types.specs.Same.{same_commitment}
use Rattle.cw_types.specs.declared.commitment.Commitment.{Commitment}
use Rattle.cw_types.specs.declared.note.Note.{Note}
use Rattle.cw_types.specs.declared.round.Round.{Round}
use Rattle.cw_rules.specs.Accepted.{first_some}
use Rattle.cw_rules.specs.Held.{held, noted_block_of}
use Rattle.cw_rules.specs.Notes.{has_block}
use Rattle.cw_types.specs.Numbers.{config_for}
use Rattle.cw_rules.specs.Rules.{Rules, commit, config_among, genesis_commitment}
use Rattle.cw_rules.specs.declared.travel.Travel.{Travel}
use Rattle.cw_rules.specs.declared.travel.Travel.TheVariants.{Chunked}
use Rattle.cw_types.proofs.Same.{same_commitment-true, same_commitment_self}
use Rattle.marshal.specs.Promises.{IsUnpruned, first_noted}
use Rattle.marshal.specs.Writing.{block_note, certified_notes, verified_notes}
use Rattle.marshal.proofs.Growing.{first_behind, first_front, holds_noted, none_noted}

-- with a block's note behind the others, it or the one before it is noted first
first_is : (r : Rules) (notes : List Note) (b : Block) (rest : List Note)
    → first_some (noted_block_of (commit r b)) (notes ++ block_note r notes b ++ rest)
    ≡ Some (first_noted notes (commit r b) b)
first_is r notes b rest = go (first_some (noted_block_of c) notes) refl
  where
    c : Commitment
    c = commit r b

    all : List Note
    all = notes ++ block_note r notes b ++ rest

    joined : all ≡ notes ++ (block_note r notes b ++ rest)
    joined = append_assoc notes (block_note r notes b) rest

    go : (o : Option Block) → first_some (noted_block_of c) notes ≡ o
        → first_some (noted_block_of c) all ≡ Some (unwrap_or o b)
    go (Some a) is =
        ap (first_some (noted_block_of c)) joined
        ∙ first_front (noted_block_of c) notes (block_note r notes b ++ rest) a is
    go None is =
        ap (first_some (noted_block_of c)) joined
        ∙ first_behind (noted_block_of c) notes (block_note r notes b ++ rest) is
        ∙ ap (λ (l : List Note). first_some (noted_block_of c) (l ++ rest))
        (cond-false (has_block notes c) [] (Note.Block c b ∷ []) (none_noted c notes is))
        ∙ ap (λ (o : Option Block). option_or o (first_some (noted_block_of c) rest))
        (cond-true (same_commitment c c) (Some b) None (same_commitment_self c))

other_than : (r : Rules) (c : Commitment) → c ≢ genesis_commitment r
    → same_commitment c (genesis_commitment r) ≡ false
other_than r c other = go (cases_Bool (same_commitment c (genesis_commitment r)))
  where
    go : (same_commitment c (genesis_commitment r) ≡ true)
        ⊎ (same_commitment c (genesis_commitment r) ≡ false)
        → same_commitment c (genesis_commitment r) ≡ false
    go (inl t) = absurd (other (same_commitment-true c (genesis_commitment r) t))
    go (inr f) = f

holds : (r : Rules) (notes : List Note) (b : Block) (rest : List Note)
    → commit r b ≢ genesis_commitment r
    → IsUnpruned (notes ++ block_note r notes b ++ rest) (first_noted notes (commit r b) b).height
    → held r (notes ++ block_note r notes b ++ rest) (commit r b)
    ≡ Some (first_noted notes (commit r b) b)
holds r notes b rest other is =
    holds_noted r (notes ++ block_note r notes b ++ rest) (commit r b)
    (first_noted notes (commit r b) b) (other_than r (commit r b) other)
    (first_is r notes b rest) is

-- a note of the call's own behind the block's, and more
regroup : (notes block : List Note) (note : Note) (more : List Note)
    → notes ++ (block ++ note ∷ []) ++ more ≡ notes ++ block ++ note ∷ more
regroup notes block note more =
    append_assoc notes (block ++ note ∷ []) more
    ∙ ap (λ (l : List Note). notes ++ l) (append_assoc block (note ∷ []) more)
    ∙ sym (append_assoc notes block (note ∷ more))

module _ (r : Rules) (notes more : List Note) (round : Round) (b : Block)
    (other : commit r b ≢ genesis_commitment r) where
  abbrev Holds : List Note → Type 0
  Holds all =
      IsUnpruned all (first_noted notes (commit r b) b).height
      → held r all (commit r b) ≡ Some (first_noted notes (commit r b) b)

  pub holds_verified : Holds (notes ++ verified_notes r notes round b ++ more)
  holds_verified =
      let note = Note.Verified round.epoch round.view (commit r b) in
      subst Holds (sym (regroup notes (block_note r notes b) note more))
      (holds r notes b (note ∷ more) other)

  pub holds_certified : Holds (notes ++ certified_notes r notes round b ++ more)
  holds_certified =
      let note =
      Note.Certified (record {
        epoch = round.epoch;
        view = round.view;
        parent = b.context.parent_view;
        payload = commit r b;
      }) in
      subst Holds (sym (regroup notes (block_note r notes b) note more))
      (holds r notes b (note ∷ more) other)

-- where blocks travel in chunks a committee of four or more cuts each in two at least, so nothing is
-- committed to as genesis is
pub cut_apart : (r : Rules) (b : Block) → r.travel ≡ Chunked → 4 ≤ size r.epochs b.context.epoch
    → commit r b ≢ genesis_commitment r
cut_apart r b chunked enough e =
    let one = ap (λ (c : Commitment). c.config.minimum) e in
    let least : (config_among r.travel (size r.epochs b.context.epoch)).minimum
    ≡ (config_for (size r.epochs b.context.epoch)).minimum =
    ap (λ (t : Travel). (config_among t (size r.epochs b.context.epoch)).minimum) chunked in
    absurd (omega (arith, one, least))
