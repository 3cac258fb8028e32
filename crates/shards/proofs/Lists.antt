-- The lists of committees, by epoch.
use Rattle.std.proofs.Common.{◌≡◌, ℕ, zero, suc, ◌-◌, ◌<◌, ◌≤◌, Bool, true, false, ◌||◌, List, [], ◌∷◌, length, slice_get, Option, Some, None, unwrap_or, refl, ◌∙◌, ap, arith}
use Rattle.std.specs.List.{list_any}
use Rattle.std.specs.Option.{option_or}
use Rattle.std.proofs.lemmas.Option.{slice_get_within}
use Rattle.cw_types.specs.Epochs.{list_of}
use Rattle.cw_types.proofs.EpochLemmas.{get-within}

any_at : {X : Type 0} (p : X → Bool) (xs : List X) (i : ℕ) (x : X) → slice_get xs i ≡ Some x
    → p x ≡ true → list_any p xs ≡ true
any_at p [] i x h t = cc
any_at p (y ∷ ys) zero x h t = let same : y ≡ x = cc in ap (λ b. b || list_any p ys) (ap p same ∙ t)
any_at p (y ∷ ys) (suc i) x h t = go (p y) (any_at p ys i x h t)
  where
    go : (b : Bool) → list_any p ys ≡ true → (b || list_any p ys) ≡ true
    go true m = refl
    go false m = m

-- a test that the list of an epoch passes is passed by one of the lists
pub any_epoch : (p : List ℕ → Bool) (lists : List (List ℕ)) (e : ℕ) → 0 < length lists
    → p (list_of lists e) ≡ true → list_any p lists ≡ true
any_epoch p lists e some t = go (slice_get lists e) refl t
  where
    go : (o : Option (List ℕ)) → slice_get lists e ≡ o
        → p (unwrap_or (option_or (slice_get lists e) (slice_get lists (length lists - 1))) [])
        ≡ true
        → list_any p lists ≡ true
    go (Some l) h t = any_at p lists e l h (rw h at t)
    go None h t =
        let last = get-within lists (length lists - 1) (omega arith) in
        any_at p lists (length lists - 1) last.0 last.1 (rw (h, last.1) at t)

none_in : (p : List ℕ → Bool) (xs : List (List ℕ))
    → ((i : ℕ) (x : List ℕ) → slice_get xs i ≡ Some x → p x ≡ false) → list_any p xs ≡ false
none_in p [] h = refl
none_in p (x ∷ xs) h =
    ap (λ b. b || list_any p xs) (h 0 x refl) ∙ none_in p xs (λ i y e. h (suc i) y e)

-- a test that no list of so many epochs passes is passed by none of so many lists
pub none_epoch : (p : List ℕ → Bool) (lists : List (List ℕ)) (n : ℕ) → length lists ≤ n
    → ((e : ℕ) → e < n → p (list_of lists e) ≡ false) → list_any p lists ≡ false
none_epoch p lists n few h =
    none_in p lists
    (λ i x at. let there = slice_get_within lists i x at in let no = h i (omega arith) in
    rw at at no)
