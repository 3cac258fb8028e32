-- The first of a list that shows something, searched one by one.
use Rattle.std.proofs.Common.{◌≡◌, ℕ, zero, suc, ◌+◌, ◌≤◌, List, [], ◌∷◌, Option, Some, None, drop, length, slice_get, refl, sym, ◌∙◌, ap, inl, inr, arith}
use Rattle.std.specs.Option.{option_or}
use Rattle.cw_rules.specs.Accepted.{first_some}
use Rattle.cw_rules.specs.Reached.{In}

module _ {X Y : Type 0} (f : X → Option Y) where
  drop_at : (xs : List X) (i : ℕ) (x : X) → slice_get xs i ≡ Some x
      → drop i xs ≡ x ∷ drop (i + 1) xs
  drop_at [] i x h = cc
  drop_at (y ∷ ys) zero x h = let e : y ≡ x = cc in ap (λ z. z ∷ ys) e
  drop_at (y ∷ ys) (suc i) x h =
      let e : suc i + 1 ≡ suc (i + 1) = omega arith in
      drop_at ys i x h ∙ ap (λ n. x ∷ drop n (y ∷ ys)) (sym e)

  drop_end : (xs : List X) (i : ℕ) → length xs ≤ i → drop i xs ≡ []
  drop_end [] zero h = refl
  drop_end [] (suc i) h = refl
  drop_end (x ∷ xs) zero h = absurd (omega arith)
  drop_end (x ∷ xs) (suc i) h = drop_end xs i (omega arith)

  -- this one shows it
  pub found_here : (xs : List X) (i : ℕ) (x : X) (y : Y) → slice_get xs i ≡ Some x → f x ≡ Some y
      → first_some f (drop i xs) ≡ Some y
  found_here xs i x y h e =
      ap (first_some f) (drop_at xs i x h)
      ∙ ap (λ o. option_or o (first_some f (drop (i + 1) xs))) e

  -- this one doesn't
  pub found_on : (xs : List X) (i : ℕ) (x : X) → slice_get xs i ≡ Some x → f x ≡ None
      → first_some f (drop i xs) ≡ first_some f (drop (i + 1) xs)
  found_on xs i x h e =
      ap (first_some f) (drop_at xs i x h)
      ∙ ap (λ o. option_or o (first_some f (drop (i + 1) xs))) e

  -- no more are left
  pub found_none : (xs : List X) (i : ℕ) → length xs ≤ i → first_some f (drop i xs) ≡ None
  found_none xs i h = ap (first_some f) (drop_end xs i h)

  -- what is found is shown by one of them
  pub found_by : (xs : List X) (y : Y) → first_some f xs ≡ Some y
      → (x : X) × In x xs × (f x ≡ Some y)
  found_by [] y h = cc
  found_by (x ∷ xs) y h = go (f x) refl h (found_by xs y)
    where
      go : (o : Option Y) → f x ≡ o → option_or o (first_some f xs) ≡ Some y
          → (first_some f xs ≡ Some y → (z : X) × In z xs × (f z ≡ Some y))
          → (z : X) × In z (x ∷ xs) × (f z ≡ Some y)
      go None e h later = let (z, i, g) = later h in (z, inr i, g)
      go (Some z) e h later = (x, inl refl, e ∙ h)
