-- Where the first of what came stands under each commitment.
use Rattle.std.specs.Prelude.{ℕ, ◌≡◌, ◌≤◌, List, None, Option, Some, false, if◌then◌else◌, is_some, length, position, take, unwrap_or}
use Rattle.std.specs.List.{list_any}
use Rattle.std.specs.Map.{lookup}
use Rattle.std.specs.Option.{option_or}
use Rattle.cw_types.specs.Block.{Block}
use Rattle.cw_types.specs.Same.{same_commitment}
use Rattle.cw_types.specs.declared.commitment.Commitment.{Commitment}
use Rattle.node.specs.Holding.{is_whole, whole_under}
use Rattle.node.specs.declared.arrival.Arrival.{Arrival}

-- a map has at each commitment the place of the first that gives a block under it, and nothing at
-- one under which none does
abbrev pub HasFirstsUnder : {X : Type 0} → (Commitment → X → Option Block) → List X
    → List (Commitment × ℕ) → Type 0
HasFirstsUnder block_of xs entries =
    (c : Commitment) → lookup (same_commitment c) entries
    ≡ position (λ x. is_some (block_of c x)) xs

-- a map keeps a place at a commitment that had none
abbrev pub PutsFirst : Commitment → ℕ → List (Commitment × ℕ) → List (Commitment × ℕ) → Type 0
PutsFirst c place old new =
    (d : Commitment) → lookup (same_commitment d) new
    ≡ option_or (lookup (same_commitment d) old) (if same_commitment d c then Some place else None)

-- the place from which on a map has whole blocks over that block's parent, the end where there is
-- none
abbrev pub first_child : List Arrival → List (Commitment × ℕ) → Block → ℕ
first_child xs entries b =
    unwrap_or (lookup (same_commitment b.context.parent) entries) (length xs)

-- no arrival before the first over its parent is the block
pub record IsNotBeforeFirstChild (xs : List Arrival) (entries : List (Commitment
    × ℕ)) (b : Block) : Type 0
  where
    pub within : first_child xs entries b ≤ length xs
    pub none : list_any (is_whole b) (take (first_child xs entries b) xs) ≡ false

-- two maps have the places of what came whole, under each commitment and over each parent
pub record ArePlaces (xs : List Arrival) (under over : List (Commitment × ℕ)) : Type 0 where
  pub wholes : HasFirstsUnder whole_under xs under
  pub children : (b : Block) → IsNotBeforeFirstChild xs over b
