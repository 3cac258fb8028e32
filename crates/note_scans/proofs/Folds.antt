-- The greatest of some numbers, as a chain of iterators finds it.
use Rattle.std.proofs.Common.{◌≡◌, ℕ, ◌<◌, ◌≤◌, ◌&&◌, ◌⊎◌, inl, inr, Bool, true, false, max, nat_lt, List, [], ◌∷◌, Option, Some, None, refl, sym, ap, ◌∙◌, arith, unwrap_or}
use Rattle.std.proofs.lemmas.Bool.{cases_lt, le-ltb, lt-ltb}
use Rattle.std.specs.List.{fold, list_all, reduce}
use Rattle.std.specs.Option.{option_map, option_map_or}
use Rattle.std.proofs.lemmas.Iterator.Adapters.{option_map_id}
use Rattle.cw_rules.specs.Notes.{greatest}
use Rattle.note_scans.specs.Heights.{greatest_of}

fold_from : (a : ℕ) (xs : List ℕ) → fold max a xs ≡ max a (greatest xs)
fold_from a [] = omega arith
fold_from a (x ∷ xs) = fold_from (max a x) xs ∙ omega arith

reduce_greatest : (xs : List ℕ) → reduce max xs ≡ greatest_of xs
reduce_greatest [] = refl
reduce_greatest (x ∷ xs) = ap Some (fold_from x xs)

-- the greatest, as `max` finds it
pub greatest_found : (r : Option ℕ) (xs : List ℕ) → option_map (λ x. x) r ≡ reduce max xs
    → r ≡ greatest_of xs
greatest_found r xs e = sym (option_map_id r) ∙ (e ∙ reduce_greatest xs)

pub greatest_or : (xs : List ℕ) → unwrap_or (greatest_of xs) 0 ≡ greatest xs
greatest_or [] = refl
greatest_or (x ∷ xs) = refl

and_true : (b : Bool) → (b && true) ≡ b
and_true true = refl
and_true false = refl

both_below : (a b limit : ℕ) → (nat_lt a limit && nat_lt b limit) ≡ nat_lt (max a b) limit
both_below a b limit = go (cases_lt a limit) (cases_lt b limit)
  where
    go : (a < limit) ⊎ (limit ≤ a) → (b < limit) ⊎ (limit ≤ b)
        → (nat_lt a limit && nat_lt b limit) ≡ nat_lt (max a b) limit
    go (inl p) (inl q) =
        ap (λ (t : Bool). t && nat_lt b limit) (lt-ltb a limit p)
        ∙ (lt-ltb b limit q ∙ sym (lt-ltb (max a b) limit (omega arith)))
    go (inl p) (inr q) =
        ap (λ (t : Bool). t && nat_lt b limit) (lt-ltb a limit p)
        ∙ (le-ltb b limit q ∙ sym (le-ltb (max a b) limit (omega arith)))
    go (inr p) q =
        ap (λ (t : Bool). t && nat_lt b limit) (le-ltb a limit p)
        ∙ sym (le-ltb (max a b) limit (omega arith))

-- all are below a limit exactly where the greatest is
pub all_below : (limit : ℕ) (xs : List ℕ)
    → list_all (λ h. nat_lt h limit) xs
    ≡ option_map_or (λ g. nat_lt g limit) (greatest_of xs) true
all_below limit [] = refl
all_below limit (x ∷ xs) = some x xs
  where
    some : (y : ℕ) (ys : List ℕ)
        → list_all (λ h. nat_lt h limit) (y ∷ ys) ≡ nat_lt (greatest (y ∷ ys)) limit
    some y [] =
        let is : y ≡ max y 0 = omega arith in
        and_true (nat_lt y limit) ∙ ap (λ (n : ℕ). nat_lt n limit) is
    some y (z ∷ zs) =
        ap (λ b. nat_lt y limit && b) (some z zs) ∙ both_below y (greatest (z ∷ zs)) limit
