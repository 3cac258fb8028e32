-- The lines of a text, but for an empty one at its end.
use Rattle.std.proofs.Common.{◌≡◌, ℕ, zero, suc, ◌<◌, List, [], ◌∷◌, length, map, take, get_or, refl, ap, arith}
use Rattle.std.proofs.lemmas.List.{nil_from_length}
use Rattle.hail_script.specs.Pieces.{without_empty_end}

-- where the last of n + 1 lines is empty, n lines are left
pub cut_empty : {A : Type 0} (v : A → List ℕ) (xs : List A) (n : ℕ) (d : A) → suc n ≡ length xs
    → length (v (get_or xs n d)) ≡ 0 → map v (take n xs) ≡ without_empty_end (map v xs)
cut_empty v [] n d h e = absurd (omega arith)
cut_empty v (x ∷ []) zero d h e = rw (nil_from_length (v x) e) refl
cut_empty v (x ∷ []) (suc n) d h e = absurd (omega arith)
cut_empty v (x ∷ y ∷ xs) zero d h e = absurd (omega arith)
cut_empty v (x ∷ y ∷ xs) (suc n) d h e =
    ap (λ (l : List (List ℕ)). v x ∷ l) (cut_empty v (y ∷ xs) n d (omega arith) e)

full : (line : List ℕ) → 0 < length line → line ∷ [] ≡ without_empty_end (line ∷ [])
full [] h = absurd (omega arith)
full (b ∷ line) h = refl

-- where it is not empty, all are
pub keep_full : {A : Type 0} (v : A → List ℕ) (xs : List A) (n : ℕ) (d : A) → suc n ≡ length xs
    → 0 < length (v (get_or xs n d)) → map v xs ≡ without_empty_end (map v xs)
keep_full v [] n d h e = absurd (omega arith)
keep_full v (x ∷ []) zero d h e = full (v x) e
keep_full v (x ∷ []) (suc n) d h e = absurd (omega arith)
keep_full v (x ∷ y ∷ xs) zero d h e = absurd (omega arith)
keep_full v (x ∷ y ∷ xs) (suc n) d h e =
    ap (λ (l : List (List ℕ)). v x ∷ l) (keep_full v (y ∷ xs) n d (omega arith) e)
