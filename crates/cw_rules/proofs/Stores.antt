-- What is held, reached, found and handed out asks neither for how blocks travel nor for the
-- members nor for the application, nor for what came.
use Rattle.std.proofs.Common.{◌≡◌, ℕ, zero, suc, Bool, ◌==◌, if◌then◌else◌, nat_lt, List, [], ◌∷◌, ◌++◌, length, filter_map, Some, None, option_map, option_and_then, refl}
use Rattle.std.specs.Option.{option_map_or}
use Rattle.cw_base.specs.declared.hash.Digest32.{Digest32}
use Rattle.cw_types.specs.Block.{Block}
use Rattle.cw_types.specs.Epochs.{Epochs}
use Rattle.cw_types.specs.Same.{same_digest}
use Rattle.cw_types.specs.declared.note.Note.{Note}
use Rattle.cw_rules.specs.Accepted.{Came, State, first_some}
use Rattle.cw_rules.specs.Held.{at_height, finalization_of, held, next, parent_of, pending, reached}
use Rattle.cw_rules.specs.Rules.{Rules, among, digest, genesis, genesis_commitment}
use Rattle.cw_rules.specs.declared.travel.Travel.{Travel}
use Rattle.cw_rules.specs.Sends.{finalization_at}
use Rattle.cw_rules.specs.Step.{Of_commitment, Of_digest, Wanted, deliveries, deliveries_within, delivery, found, handing, most_delivered, noted_of}

module _ (r : Rules) (travel : Travel) (epochs : Epochs) (accepts : Block → Block → Bool) where
  module _ (backlog : ℕ) (notes : List Note) where
    abbrev other : Rules
    other = among r travel epochs backlog accepts

    pub reached_same : (steps : ℕ) → reached other notes steps ≡ reached r notes steps
    reached_same zero = refl
    reached_same (suc steps) =
        λ i height c b. if b.height == height then Some c
        else option_and_then (reached_same steps i height b.context.parent) (parent_of r notes b)

    pub at_same : at_height other notes ≡ at_height r notes
    at_same =
        λ i height. if height == 0 then Some (genesis_commitment r)
        else first_some
        (λ p. option_and_then (λ b. reached_same b.height i height p.payload b)
        (held r notes p.payload))
        (filter_map finalization_of notes)

    noted_same : (d : Digest32) (note : Note)
        → noted_of other notes d note ≡ noted_of r notes d note
    noted_same d (Note.Block c b) = refl
    noted_same d _ = refl

    pub found_same : (w : Wanted) → found other notes w ≡ found r notes w
    found_same (Of_digest d) =
        λ i. if same_digest (digest r (genesis r)) d then Some (genesis_commitment r)
        else first_some (λ note. noted_same d note i) notes
    found_same (Of_commitment c) = refl

    finalization_same : (height : ℕ) (note : Note)
        → finalization_at other notes height note ≡ finalization_at r notes height note
    finalization_same height (Note.Cert s) = refl
    finalization_same height _ = refl

    pub first_finalization : (height : ℕ)
        → first_some (finalization_at other notes height) notes
        ≡ first_some (finalization_at r notes height) notes
    first_finalization height = λ i. first_some (λ note. finalization_same height note i) notes

  module _ (notes : List Note) where
    abbrev unlike : Rules
    unlike = among r travel epochs r.backlog accepts

    pub delivery_same : (came others : Came) (given : List ℕ)
        → delivery unlike (record { notes = notes; came = came; given = given })
        ≡ delivery r (record { notes = notes; came = others; given = given })
    delivery_same came others given =
        let s : State = record { notes = notes; came = came; given = given } in
        λ i. if nat_lt (length (pending s)) r.backlog
        then option_and_then (λ c. option_map (handing r (next s) c) (held r notes c))
        (at_same r.backlog notes i (next s))
        else None

    within_same : (steps : ℕ) (came others : Came) (given : List ℕ)
        → deliveries_within unlike steps (record { notes = notes; came = came; given = given })
        ≡ deliveries_within r steps (record { notes = notes; came = others; given = given })
    within_same zero came others given = refl
    within_same (suc steps) came others given =
        λ i. option_map_or (λ h. h ∷ within_same steps came others (given ++ h.height ∷ []) i)
        (delivery_same came others given i) []

    pub deliveries_same : (came others : Came) (given : List ℕ)
        → deliveries unlike (record { notes = notes; came = came; given = given })
        ≡ deliveries r (record { notes = notes; came = others; given = given })
    deliveries_same came others given =
        within_same (most_delivered r (record { notes = notes; came = came; given = given })) came
        others given
