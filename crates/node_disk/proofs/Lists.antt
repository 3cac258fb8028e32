-- Places of lists, and values of results.
use Rattle.std.proofs.Common.{◌≡◌, ℕ, zero, suc, List, [], ◌∷◌, ◌++◌, take, drop, Some, Result, Ok, ap}
use Rattle.std.specs.List.{slice_get}
use Rattle.std.proofs.lemmas.Option.{same_Some}

-- the element at a place stands in front of what is behind it, and behind what is before it
pub at_place : {X : Type 0} (xs : List X) (i : ℕ) (x : X) → slice_get xs i ≡ Some x
    → (drop i xs ≡ x ∷ drop (suc i) xs) × (take (suc i) xs ≡ take i xs ++ x ∷ [])
at_place [] i x e = absurd cc
at_place (y ∷ ys) zero x e =
    let s : y ≡ x = same_Some y x e in (ap (λ z. z ∷ ys) s, ap (λ z. z ∷ []) s)
at_place (y ∷ ys) (suc i) x e = let more = at_place ys i x e in (more.0, ap (λ l. y ∷ l) more.1)

pub same_Ok : {A : Type 0} (x y : A) → ◌≡◌ {A = Result A ℕ} (Ok x) (Ok y) → x ≡ y
same_Ok x y e = cc
