-- What committees are, list by list.
use Rattle.std.proofs.Common.{◌≡◌, ℕ, zero, suc, ◌+◌, ◌-◌, ◌<◌, ◌≤◌, ◌&&◌, Bool, IsTrue, true}
use Rattle.std.proofs.Common.{false, nat_le, nat_lt, List, [], ◌∷◌, ◌++◌, length, Option, Some}
use Rattle.std.proofs.Common.{None, slice_get, unwrap_or, refl, sym, ◌∙◌, ap, subst, inl, inr, ◌⊎◌}
use Rattle.std.proofs.Common.{arith, leb-true, ltb-true}
use Rattle.std.specs.List.{AllByRecursion, list_all, position, position_or_len, range_with_len}
use Rattle.std.specs.Option.{option_map_or, option_or}
use Rattle.std.proofs.lemmas.Bool.{and_parts, and_from, cases_Bool, cond-false, cond-true, le-leb}
use Rattle.std.proofs.lemmas.Bool.{lt-ltb}
use Rattle.std.proofs.lemmas.Option.{same_Some}
use Rattle.std.proofs.lemmas.List.FromFn.{length-range_with_len}
use Rattle.cw_types.specs.Epochs.{Epochs, is_committee, is_sound, list_of, members_in, rises_from}
use Rattle.cw_types.specs.Epochs.{single}

-- a test that all pass is passed at each place
pub each_passes : {X : Type 0} (p : X → Bool) (xs : List X) (i : ℕ) (x : X) → list_all p xs ≡ true
    → slice_get xs i ≡ Some x → p x ≡ true
each_passes p [] i x a h = cc
each_passes p (y ∷ ys) zero x a h =
    let e : y ≡ x = cc in subst (λ z. p z ≡ true) e (and_parts (p y) (list_all p ys) a).0
each_passes p (y ∷ ys) (suc i) x a h = each_passes p ys i x (and_parts (p y) (list_all p ys) a).1 h

-- a place below the length has an element
pub get-within : {X : Type 0} (xs : List X) (i : ℕ) → i < length xs
    → (x : X) × (slice_get xs i ≡ Some x)
get-within [] i h = absurd (omega arith)
get-within (x ∷ xs) zero h = (x, refl)
get-within (x ∷ xs) (suc i) h = get-within xs i (omega arith)

-- the list of an epoch is one of the lists
pub list_passes : (p : List ℕ → Bool) (lists : List (List ℕ)) (epoch : ℕ) → 0 < length lists
    → list_all p lists ≡ true → p (list_of lists epoch) ≡ true
list_passes p lists epoch some all = go (slice_get lists epoch) refl
  where
    go : (o : Option (List ℕ)) → slice_get lists epoch ≡ o
        → p (unwrap_or (option_or o (slice_get lists (length lists - 1))) []) ≡ true
    go (Some list) e = each_passes p lists epoch list all e
    go None e =
        let (list, at) = get-within lists (length lists - 1) (omega arith) in
        subst (λ o. p (unwrap_or o []) ≡ true) (sym at)
        (each_passes p lists (length lists - 1) list all at)

-- numbers that rise from low and stay below the total are no more than lie between
rise_fits : (low total : ℕ) (xs : List ℕ) → rises_from low xs ≡ true
    → list_all (λ i. nat_lt i total) xs ≡ true → (length xs ≡ 0) ⊎ (low + length xs ≤ total)
rise_fits low total [] r a = inl refl
rise_fits low total (x ∷ xs) r a =
    let p = and_parts (nat_le low x) (rises_from (x + 1) xs) r in
    let q = and_parts (nat_lt x total) (list_all (λ i. nat_lt i total) xs) a in
    go (rise_fits (x + 1) total xs p.1 q.1) (leb-true low x p.0) (ltb-true x total q.0)
  where
    go : (length xs ≡ 0) ⊎ (x + 1 + length xs ≤ total) → low ≤ x → x < total
        → (length (x ∷ xs) ≡ 0) ⊎ (low + length (x ∷ xs) ≤ total)
    go (inl e) le lt = inr (omega arith)
    go (inr e) le lt = inr (omega arith)

-- a committee has at least four members, and no more than there are
pub record HasSize (total : ℕ) (list : List ℕ) : Type 0 where
  pub enough : 4 ≤ length list
  pub within : length list ≤ total

pub committee_size : (total : ℕ) (list : List ℕ) → is_committee total list ≡ true
    → HasSize total list
committee_size total list h =
    let p =
    and_parts (nat_le 4 (length list) && rises_from 0 list)
    (list_all (λ i. nat_lt i total) list) h in
    let q = and_parts (nat_le 4 (length list)) (rises_from 0 list) p.0 in
    let four = leb-true 4 (length list) q.0 in
    record { enough = four; within = go (rise_fits 0 total list q.1 p.1) four }
  where
    go : (length list ≡ 0) ⊎ (0 + length list ≤ total) → 4 ≤ length list → length list ≤ total
    go (inl e) four = absurd (omega arith)
    go (inr e) four = omega arith

range_rises : (low n : ℕ) → rises_from low (range_with_len low n) ≡ true
range_rises low zero = refl
range_rises low (suc n) =
    and_from (nat_le low low) (rises_from (low + 1) (range_with_len (low + 1) n))
    (le-leb low low (omega arith)) (range_rises (low + 1) n)

range_below : (low n total : ℕ) → low + n ≤ total
    → list_all (λ i. nat_lt i total) (range_with_len low n) ≡ true
range_below low zero total h = refl
range_below low (suc n) total h =
    and_from (nat_lt low total) (list_all (λ i. nat_lt i total) (range_with_len (low + 1) n))
    (lt-ltb low total (omega arith)) (range_below (low + 1) n total (omega arith))

-- one epoch of at least four members is sound
pub single_sound : (n : ℕ) → 4 ≤ n → is_sound (single n) ≡ true
single_sound n four =
    let size : nat_le 4 (length (range_with_len 0 n)) ≡ true =
    le-leb 4 (length (range_with_len 0 n)) (omega (arith, length-range_with_len 0 n)) in
    let committee : is_committee n (range_with_len 0 n) ≡ true =
    and_from (nat_le 4 (length (range_with_len 0 n)) && rises_from 0 (range_with_len 0 n))
    (list_all (λ i. nat_lt i n) (range_with_len 0 n))
    (and_from (nat_le 4 (length (range_with_len 0 n))) (rises_from 0 (range_with_len 0 n))
    size (range_rises 0 n))
    (range_below 0 n n (omega arith)) in
    ap (λ b. (b && true) && true) committee

-- one more number
pub range_more : (low n next : ℕ) → low + n ≡ next
    → range_with_len low (n + 1) ≡ range_with_len low n ++ next ∷ []
range_more low zero next e = let last : low ≡ next = omega arith in ap (λ x. x ∷ []) last
range_more low (suc n) next e =
    let more : suc n + 1 ≡ suc (n + 1) = omega arith in
    ap (range_with_len low) more ∙ ap (λ xs. low ∷ xs) (range_more (low + 1) n next (omega arith))

-- the members of each epoch are a committee
pub members_committee : (x : Epochs) (epoch : ℕ) → is_sound x ≡ true
    → is_committee x.total (members_in x epoch) ≡ true
members_committee x epoch h =
    let p =
    and_parts
    (nat_lt 0 (length x.lists) && nat_le (length x.lists) 64
    && list_all (is_committee x.total) x.lists)
    (option_map_or (λ span. nat_lt 0 span) x.span true) h in
    let q =
    and_parts (nat_lt 0 (length x.lists) && nat_le (length x.lists) 64)
    (list_all (is_committee x.total) x.lists) p.0 in
    let s = and_parts (nat_lt 0 (length x.lists)) (nat_le (length x.lists) 64) q.0 in
    list_passes (is_committee x.total) x.lists epoch (ltb-true 0 (length x.lists) s.0) q.1

-- what a test says of each holds of each
all_below : (total : ℕ) (xs : List ℕ) → list_all (λ i. nat_lt i total) xs ≡ true
    → AllByRecursion (λ i. i < total) xs
all_below total [] h = tt
all_below total (x ∷ xs) h =
    let p = and_parts (nat_lt x total) (list_all (λ i. nat_lt i total) xs) h in
    (ltb-true x total p.0, all_below total xs p.1)

-- a committee has at least four members, which rise and stay below the total
pub record AreMembers (total : ℕ) (list : List ℕ) : Type 0 where
  pub enough : 4 ≤ length list
  pub rising : IsTrue (rises_from 0 list)
  pub there : AllByRecursion (λ i. i < total) list

pub committee_members : (total : ℕ) (list : List ℕ) → is_committee total list ≡ true
    → AreMembers total list
committee_members total list h =
    let p =
    and_parts (nat_le 4 (length list) && rises_from 0 list)
    (list_all (λ i. nat_lt i total) list) h in
    let q = and_parts (nat_le 4 (length list)) (rises_from 0 list) p.0 in
    record { enough = leb-true 4 (length list) q.0; rising = q.1; there = all_below total list p.1 }

-- a place lies below the length
pub place_below : (p : ℕ → Bool) (xs : List ℕ) (i : ℕ) → position p xs ≡ Some i → i < length xs
place_below p xs i h = go (cases_Bool (nat_lt (position_or_len p xs) (length xs)))
  where
    go : (nat_lt (position_or_len p xs) (length xs) ≡ true)
        ⊎ (nat_lt (position_or_len p xs) (length xs) ≡ false)
        → i < length xs
    go (inl t) =
        let e : position_or_len p xs ≡ i =
        same_Some (position_or_len p xs) i
        (sym
        (cond-true (nat_lt (position_or_len p xs) (length xs))
        (Some (position_or_len p xs)) None t)
        ∙ h) in
        subst (λ j. j < length xs) e (ltb-true (position_or_len p xs) (length xs) t)
    go (inr f) =
        cc
        (cond-false (nat_lt (position_or_len p xs) (length xs)) (Some (position_or_len p xs))
        None f)

-- the span of sound committees is above 0
pub span_positive : (x : Epochs) (span : ℕ) → is_sound x ≡ true → x.span ≡ Some span → 1 ≤ span
span_positive x span h e =
    let p =
    and_parts
    (nat_lt 0 (length x.lists) && nat_le (length x.lists) 64
    && list_all (is_committee x.total) x.lists)
    (option_map_or (λ s. nat_lt 0 s) x.span true) h in
    ltb-true 0 span (subst (λ o. option_map_or (λ s. nat_lt 0 s) o true ≡ true) e p.1)
