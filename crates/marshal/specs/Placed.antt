-- Where the first of each key stands in a list.
use Rattle.std.specs.Prelude.{ℕ, ◌&&◌, ◌==◌, ◌≡◌, Bool, List, None, Some, false, position, if◌then◌else◌}
use Rattle.std.specs.Option.{option_map_or, option_or}
use Rattle.std.specs.Map.{lookup}
use Rattle.cw_types.specs.Same.{same_commitment}
use Rattle.cw_types.specs.declared.commitment.Commitment.{Commitment}
use Rattle.cw_types.specs.declared.note.Note.{Note}
use Rattle.cw_rules.specs.Held.{greatest_prune}
use Rattle.cw_rules.specs.Notes.{is_block}

module _ {K : Type 0} (same : K → K → Bool) where
  -- a map has at each key the place of the first element that is of it, counted from 0, and nothing
  -- where there is none
  abbrev pub HasFirsts : {X : Type 0} → (K → X → Bool) → List (K × ℕ) → List X → Type 0
  HasFirsts is_of entries xs = (q : K) → lookup (same q) entries ≡ position (is_of q) xs

  -- a map keeps a place at a key that had none
  abbrev pub KeepsFirst : K → ℕ → List (K × ℕ) → List (K × ℕ) → Type 0
  KeepsFirst key place old new =
      (q : K) → lookup (same q) new
      ≡ option_or (lookup (same q) old) (if same q key then Some place else None)

  -- a map lets a place go, where it is the one at that key
  abbrev pub LetsGo : K → ℕ → List (K × ℕ) → List (K × ℕ) → Type 0
  LetsGo key place old new =
      (q : K) → lookup (same q) new
      ≡ (if same q key && option_map_or (λ at. at == place) (lookup (same q) old) false
      then None else lookup (same q) old)

-- the places of the first Block notes
abbrev pub HasPlaces : List (Commitment × ℕ) → List Note → Type 0
HasPlaces = HasFirsts same_commitment is_block

-- notes with the places of their first Block notes, and the height below which blocks are hidden
pub record AreFound (places : List (Commitment × ℕ)) (prune : ℕ) (notes : List Note) : Type 0 where
  pub placed : HasPlaces places notes
  pub pruned : prune ≡ greatest_prune notes
