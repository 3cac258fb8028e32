-- Heights that rise: those from some place on are pending, and the least is the first of these.
use Rattle.std.proofs.Common.{◌≡◌, ℕ, zero, suc, ◌+◌, ◌-◌, ◌<◌, ◌≤◌, min, max, Bool, true, false, nat_lt, filter, drop, refl, sym, ◌∙◌, ap, arith, subst, List, [], ◌∷◌, ◌++◌, length, Option, Some, None, IfSome, is_some, slice_get, Bor}
use Rattle.std.specs.Prelude.{slice_index_or}
use Rattle.std.specs.List.{last_or}
use Rattle.std.specs.List.Sorted.{IsNonDecreasing, IsPartitionPoint}
use Rattle.std.specs.Option.{option_copied, option_map_or}
use Rattle.std.proofs.lemmas.Bool.Decides.{nat_tests}
use Rattle.std.proofs.lemmas.Option.{slice_get_past, slice_get_read}
use Rattle.std.proofs.lemmas.List.Sorted.{IsNonDecreasingBy-drop, IsNonDecreasingBy-push}
use Rattle.cw_rules.specs.Direct.{least}
use Rattle.cw_rules.specs.Held.{is_pending}

-- what passes a test from a place on, and not before it
pub behind_place : {X : Type 0} (p : X → Bool) (xs : List X) (i : ℕ)
    → ((k : ℕ) (d : X) → k < i → p (slice_index_or xs k d) ≡ false)
    → ((k : ℕ) (d : X) → i ≤ k → k < length xs → p (slice_index_or xs k d) ≡ true)
    → filter p xs ≡ drop i xs
behind_place p [] zero low high = refl
behind_place p [] (suc i) low high = refl
behind_place p (x ∷ xs) zero low high =
    rw (high 0 x (omega arith) (omega arith))
    (ap (λ ys. x ∷ ys)
    (behind_place p xs zero (λ k d l. absurd (omega (arith, l)))
    (λ k d g l. high (suc k) d (omega arith) (omega (arith, l)))))
behind_place p (x ∷ xs) (suc i) low high =
    rw (low 0 x (omega arith))
    (behind_place p xs i (λ k d l. low (suc k) d (omega (arith, l)))
    (λ k d g l. high (suc k) d (omega (arith, g)) (omega (arith, l))))

-- a height is pending exactly where it isn't below the least that may be
pub is_low : (acked : Option ℕ) (floor low h : ℕ)
    → low ≡ max (option_map_or (λ a. a + 1) acked 0) floor → nat_lt h low ≡ true
    → is_pending acked floor h ≡ false
is_low None floor low h is l = grind (arith, nat_tests)
is_low (Some a) floor low h is l = grind (arith, nat_tests)

pub isnt_low : (acked : Option ℕ) (floor low h : ℕ)
    → low ≡ max (option_map_or (λ a. a + 1) acked 0) floor → nat_lt h low ≡ false
    → is_pending acked floor h ≡ true
isnt_low None floor low h is l = grind (arith, nat_tests)
isnt_low (Some a) floor low h is l = grind (arith, nat_tests)

pub pending_behind : (acked : Option ℕ) (floor low : ℕ) (given : List ℕ) (i : ℕ)
    → low ≡ max (option_map_or (λ a. a + 1) acked 0) floor
    → IsPartitionPoint (λ y. nat_lt y low ≡ true) (λ y. nat_lt y low ≡ false) given i
    → filter (is_pending acked floor) given ≡ drop i given
pending_behind acked floor low given i is point =
    behind_place (is_pending acked floor) given i
    (λ k d l. is_low acked floor low (slice_index_or given k d) is
    (point.0 k d (omega arith) l))
    (λ k d g l. isnt_low acked floor low (slice_index_or given k d) is (point.1 k d g l))

-- what a look at a place finds
pub got : {X : Type 0} (xs : List X) (i : ℕ) (r : Option (Bor X))
    → is_some r ≡ nat_lt i (length xs) → IfSome r (λ x. x.now ≡ slice_index_or xs i x.now)
    → option_copied r ≡ slice_get xs i
got xs i None some is = sym (slice_get_past xs i (grind (arith, nat_tests)))
got xs i (Some x) some is =
    sym (slice_get_read xs (length xs) i x.now refl (grind (arith, nat_tests)) is)

-- ---- the least

at_least : (x y : ℕ) (ys : List ℕ) → x ≤ y
    → ((j d : ℕ) → j < length ys → x ≤ slice_index_or ys j d)
    → x ≤ option_map_or (min y) (least ys) y
at_least x y [] le h = le
at_least x y (z ∷ zs) le h =
    let more = at_least x z zs (h 0 0 (omega arith)) (λ j d l. h (suc j) d (omega (arith, l))) in
    omega arith

least_first : (xs : List ℕ) → IsNonDecreasing xs → least xs ≡ slice_get xs 0
least_first [] up = refl
least_first (x ∷ xs) up = ap Some (first xs (λ j d l. up 0 (suc j) d (omega arith) (omega (arith, l))))
  where
    first : (ys : List ℕ) → ((j d : ℕ) → j < length ys → x ≤ slice_index_or ys j d)
        → option_map_or (min x) (least ys) x ≡ x
    first [] h = refl
    first (y ∷ ys) h =
        let more =
        at_least x y ys (h 0 0 (omega arith)) (λ j d l. h (suc j) d (omega (arith, l))) in
        omega arith

first_behind_place : (i : ℕ) (xs : List ℕ) → slice_get (drop i xs) 0 ≡ slice_get xs i
first_behind_place zero xs = refl
first_behind_place (suc i) [] = refl
first_behind_place (suc i) (x ∷ xs) = first_behind_place i xs

pub least_behind : (i : ℕ) (xs : List ℕ) → IsNonDecreasing xs → least (drop i xs) ≡ slice_get xs i
least_behind i xs up =
    least_first (drop i xs) (IsNonDecreasingBy-drop (λ x. x) i xs up) ∙ first_behind_place i xs

-- ---- the last

last_from : (o : Option ℕ) (x : ℕ) (xs : List ℕ)
    → last_or o (x ∷ xs) ≡ slice_get (x ∷ xs) (length xs)
last_from o x [] = refl
last_from o x (y ∷ ys) = last_from (Some x) y ys

pub last_is : (xs : List ℕ) → last_or None xs ≡ slice_get xs (length xs - 1)
last_is [] = refl
last_is (x ∷ xs) =
    let at : length xs ≡ length (x ∷ xs) - 1 = omega arith in
    last_from None x xs ∙ ap (slice_get (x ∷ xs)) at

last_value : (o : Option ℕ) (x : ℕ) (xs : List ℕ) (d : ℕ)
    → last_or o (x ∷ xs) ≡ Some (slice_index_or (x ∷ xs) (length xs) d)
last_value o x [] d = refl
last_value o x (y ∷ ys) d = last_value (Some x) y ys d

-- the next height is above the last
pub rises_on : (given : List ℕ) (h n floor : ℕ)
    → h ≡ max (option_map_or (λ x. x + 1) (last_or None given) n) floor → IsNonDecreasing given
    → IsNonDecreasing (given ++ h ∷ [])
rises_on given h n floor is up =
    IsNonDecreasingBy-push (λ x. x) given h up (λ d some. below given is d some)
  where
    below : (xs : List ℕ) → h ≡ max (option_map_or (λ x. x + 1) (last_or None xs) n) floor
        → (d : ℕ) → 0 < length xs → slice_index_or xs (length xs - 1) d ≤ h
    below [] e d some = absurd (omega (arith, some))
    below (x ∷ xs) e d some =
        let at : length xs ≡ length (x ∷ xs) - 1 = omega arith in
        let above : h ≡ max (slice_index_or (x ∷ xs) (length xs) d + 1) floor =
        e
        ∙ ap (λ o. max (option_map_or (λ y. y + 1) o n) floor) (last_value None x xs d) in
        subst (λ (k : ℕ). slice_index_or (x ∷ xs) k d ≤ h) at (omega (arith, above))
