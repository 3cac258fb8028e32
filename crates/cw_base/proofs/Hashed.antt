-- The hashes of rows that are given as slices.
use Rattle.std.proofs.Common.{◌≡◌, ℕ, ◌/◌, List, [], ◌∷◌, length, map, refl, ap, ◌∙◌}
use denote.Ref.{Bor}
use denote.Param.Members.{Shared}
use Rattle.std.specs.Fn.{FnReturnsAt}
use Rattle.cw_base.specs.Mapping.{GivesItems}
use Rattle.cw_base.specs.Rows.{listed, row_of, row_hashes}
use Rattle.cw_base.proofs.Listed.{map-listed}

-- what a map over items answers, where f answers h at each
pub mapped_items : {F T R : Type 0} (g : Shared F (Bor T × Unit {0}) R) (f : F) (h : T → R)
    → ((x : T) (r : R) → FnReturnsAt g f x r → r ≡ h x) →
    (xs : List T) (rs : List R) → GivesItems g f xs rs → rs ≡ map h xs
mapped_items g f h each [] [] given = refl
mapped_items g f h each [] (r ∷ rs) given = absurd given
mapped_items g f h each (x ∷ xs) [] given = absurd given
mapped_items g f h each (x ∷ xs) (r ∷ rs) given =
    ap (λ y. y ∷ rs) (each x r given.0)
    ∙ ap (λ ys. h x ∷ ys) (mapped_items g f h each xs rs given.1)

-- the hashes of rows that are given as slices
pub hashes_are : {D : Type 0} (hash : List ℕ → D) (width : ℕ) (rows : List ℕ)
    (slices : List (Bor (List ℕ))) (hashes : List D)
    →
    map (λ row. row.now) slices ≡ listed (length rows / width) (λ i. row_of rows width i) →
    hashes ≡ map (λ row. hash row.now) slices → hashes ≡ row_hashes hash width rows
unfolding row_hashes
hashes_are hash width rows slices hashes are is =
    is ∙ inside slices ∙ ap (map hash) are
    ∙ map-listed (length rows / width) (λ i. row_of rows width i) hash
  where
    inside : (xs : List (Bor (List ℕ)))
        → map (λ row. hash row.now) xs ≡ map hash (map (λ row. row.now) xs)
    inside [] = refl
    inside (x ∷ xs) = ap (λ ys. hash x.now ∷ ys) (inside xs)
