-- How high finalizations reach at most: a number beside each note.
use Rattle.std.specs.Prelude.{ℕ, ◌≡◌, ◌≤◌, ◌<◌, Bool, false, IfSome, List, Option, Some, length, option_and_then, option_map, slice_get, slice_index_or}
use Rattle.std.specs.List.Sorted.{IsNonDecreasing}
use Rattle.std.specs.Option.{option_map_or}
use Rattle.cw_types.specs.Same.{same_commitment}
use Rattle.cw_types.specs.declared.commitment.Commitment.{Commitment}
use Rattle.cw_types.specs.declared.note.Note.{Note}
use Rattle.cw_rules.specs.Accepted.{first_some}
use Rattle.cw_rules.specs.Held.{finalization_of, noted_block_of}
use Rattle.marshal.specs.Placed.{HasFirsts}

-- the note is a finalization of this payload
abbrev pub is_final : Commitment → Note → Bool
is_final c note = option_map_or (λ p. same_commitment c p.payload) (finalization_of note) false

-- a map has the place of the first finalization of each payload
abbrev pub HasFinals : List (Commitment × ℕ) → List Note → Type 0
HasFinals = HasFirsts same_commitment is_final

-- the height of the noted payload of a finalization
abbrev pub final_height : List Note → Note → Option ℕ
final_height notes note =
    option_map (λ b. b.height)
    (option_and_then (λ p. first_some (noted_block_of p.payload) notes) (finalization_of note))

-- Beside each note stands a number. They never fall, and the noted payload of a finalization isn't
-- higher than the number there. So none up to a note is higher than its number.
pub record BoundsHeights (notes : List Note) (reach : List ℕ) : Type 0 where
  pub one_each : length reach ≡ length notes
  pub rising : IsNonDecreasing reach
  pub bounds : (i : ℕ) (note : Note) → slice_get notes i ≡ Some note
      → IfSome (final_height notes note) (λ h. h ≤ slice_index_or reach i 0)

-- numbers that still never fall, none of which is lower than before
pub record IsLifted (old new : List ℕ) : Type 0 where
  pub as_many : length new ≡ length old
  pub rising : IsNonDecreasing new
  pub higher : (i d : ℕ) → slice_index_or old i d ≤ slice_index_or new i d

-- from a place on no number is below a height
abbrev pub AreAbove : ℕ → ℕ → List ℕ → Type 0
AreAbove place height reach =
    (i d : ℕ) → place ≤ i → i < length reach → height ≤ slice_index_or reach i d
