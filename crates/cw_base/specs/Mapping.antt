-- A function that is called at each item of a list.
use Rattle.std.specs.Prelude.{◌≡◌, ℕ, ◌<◌, List, [], ◌∷◌, length, slice_index_or}
use denote.Ref.{Bor}
use denote.Param.Members.{Shared}
use Rattle.std.specs.Fn.{FnReturnsAt}

module _ {F T R : Type 0} (g : Shared F (Bor T × Unit {0}) R) (f : F) where
  -- f may be called with a `&` to each item
  abbrev pub AcceptsItems : List T → Type 0
  AcceptsItems xs =
      (i : ℕ) (p : Bor T) → i < length xs → p.now ≡ slice_index_or xs i p.now → g.pre f (p, tt)

  -- the results are those of calls of f with a `&` to each item, in order
  abbrev pub GivesItems : List T → List R → Type 0
  GivesItems [] [] = Unit {0}
  GivesItems [] (r ∷ rs) = ⊥
  GivesItems (x ∷ xs) [] = ⊥
  GivesItems (x ∷ xs) (r ∷ rs) = FnReturnsAt g f x r × GivesItems xs rs
