-- What a search among numbers that rise finds.
use Rattle.std.proofs.Common.{◌≡◌, ℕ, zero, suc, ◌+◌, ◌<◌, ◌≤◌, ◌==◌, true, false, nat_le, nat_lt, if◌then◌else◌}
use Rattle.std.proofs.Common.{List, [], ◌∷◌, length, get_or, Some, None, Result, Ok, Err, sym, ◌∙◌, ap, arith, leb-true}
use Rattle.std.specs.List.{list_any, position}
use Rattle.std.specs.List.Sorted.{IsBinarySearchResult}
use Rattle.std.specs.Result.{is_ok, result_ok}
use Rattle.std.specs.Ordering.{nat_cmp}
use Rattle.std.proofs.lemmas.Bool.{and_parts, cond-false, cond-true, lt-ltb}
use Rattle.std.proofs.lemmas.Bool.Decides.{nat_tests}
use Rattle.std.proofs.lemmas.Grind.{get_or_default_zero}
use Rattle.std.proofs.lemmas.List.Folds.{list_any_at, list_any_none}
use Rattle.std.proofs.lemmas.List.Sums.{position_or_len_is}
use Rattle.std.proofs.lemmas.List.Sorted.{searched}
use Rattle.cw_types.specs.Epochs.{rises_from}

-- each number is at least the bound from which they rise
above_bound : (low : ℕ) (xs : List ℕ) (i : ℕ) → rises_from low xs ≡ true → i < length xs
    → low ≤ get_or xs i 0
above_bound low [] i h l = absurd (omega arith)
above_bound low (x ∷ xs) zero h l = leb-true low x (and_parts (nat_le low x) (rises_from (x + 1) xs) h).0
above_bound low (x ∷ xs) (suc i) h l =
    let p = and_parts (nat_le low x) (rises_from (x + 1) xs) h in
    let first = leb-true low x p.0 in
    let rest = above_bound (x + 1) xs i p.1 (omega arith) in
    omega arith

-- a later number is greater
rise_apart : (low : ℕ) (xs : List ℕ) (i j : ℕ) → rises_from low xs ≡ true → i < j → j < length xs
    → get_or xs i 0 < get_or xs j 0
rise_apart low [] i j h l within = absurd (omega arith)
rise_apart low (x ∷ xs) i zero h l within = absurd (omega arith)
rise_apart low (x ∷ xs) zero (suc j) h l within =
    let p = and_parts (nat_le low x) (rises_from (x + 1) xs) h in
    let rest = above_bound (x + 1) xs j p.1 (omega arith) in
    omega arith
rise_apart low (x ∷ xs) (suc i) (suc j) h l within =
    let p = and_parts (nat_le low x) (rises_from (x + 1) xs) h in
    rise_apart (x + 1) xs i j p.1 (omega arith) (omega arith)

-- a later number is no less
rise_on : (xs : List ℕ) → rises_from 0 xs ≡ true → (i j : ℕ) → i ≤ j → j < length xs
    → get_or xs i 0 ≤ get_or xs j 0
rise_on xs h i j le within = grind (arith, rise_apart 0 xs i j h, λ (same : i ≡ j). ap (λ k. get_or xs k 0) same)

-- none of them is a number that such a search didn't find
no_place : (xs : List ℕ) (x i : ℕ) → rises_from 0 xs ≡ true
    → IsBinarySearchResult (λ y. nat_cmp y x) xs (Err i) → (k : ℕ) → k < length xs
    → (get_or xs k 0 == x) ≡ false
no_place xs x i h gap k within =
    let at = searched xs x (Err i) gap (rise_on xs h) in
    grind (arith, nat_tests, at.1 k, at.2 k)

-- a binary search among them answers the place of the number
pub place_searched : (xs : List ℕ) (x : ℕ) (r : Result ℕ ℕ) → rises_from 0 xs ≡ true
    → IsBinarySearchResult (λ y. nat_cmp y x) xs r → result_ok r ≡ position (λ y. y == x) xs
place_searched xs x (Ok i) h found =
    let at = searched xs x (Ok i) found (rise_on xs h) in
    let place =
    position_or_len_is (λ y. y == x) xs i 0 (omega (arith, at.0))
    (λ k below. let less = rise_apart 0 xs k i h below at.0 in grind (arith, nat_tests, at.1))
    (λ within. grind (arith, nat_tests, at.1)) in
    sym (ap (λ n. if nat_lt n (length xs) then Some n else None) place ∙ cond-true (nat_lt i (length xs)) (Some i) None (lt-ltb i (length xs) at.0))
place_searched xs x (Err i) h gap =
    let place =
    position_or_len_is (λ y. y == x) xs (length xs) 0 (omega arith)
    (λ k below. no_place xs x i h gap k below)
    (λ within. absurd (omega arith)) in
    sym (ap (λ n. if nat_lt n (length xs) then Some n else None) place ∙ cond-false (nat_lt (length xs) (length xs)) (Some (length xs)) None (grind (arith, nat_tests)))

-- and whether it is there
pub member_searched : (xs : List ℕ) (x : ℕ) (r : Result ℕ ℕ) → rises_from 0 xs ≡ true
    → IsBinarySearchResult (λ y. nat_cmp y x) xs r → is_ok r ≡ list_any (λ y. y == x) xs
member_searched xs x (Ok i) h found =
    let at = searched xs x (Ok i) found (rise_on xs h) in
    sym (list_any_at (λ y. y == x) xs i 0 at.0 (grind (arith, nat_tests, at.1)))
member_searched xs x (Err i) h gap =
    sym
    (list_any_none (λ y. y == x) xs
    (λ k d within.
    let same = get_or_default_zero xs k d within in
    grind (arith, nat_tests, no_place xs x i h gap k within)))
