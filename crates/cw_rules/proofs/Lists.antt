-- Searches, ranges and tests over lists.
use Rattle.std.proofs.Common.{◌≡◌, ℕ, zero, suc, ◌+◌, ◌<◌, ◌≤◌, Bool, true, false, cond, List, [], ◌∷◌, ◌++◌, Option, Some, None, refl, sym, subst, inl, inr, ◌⊎◌, arith, filter, nat_le, ◌==◌, IsTrue, eq-eqb, get_or, drop, add-one, drop-cons, ◌∙◌, ap, length, count_by, slice_get}
use Rattle.std.specs.List.{list_any, list_all, AllByRecursion, range_with_len, filter_map}
use Rattle.std.specs.Option.{option_or, option_map_or, option_and_then, option_map}
use Rattle.std.proofs.lemmas.Bool.{and_parts, and_from, or_left, or_right, or_cases, false≢true, leb-true, eqb-true, cases_Bool, cases_eq, cond-true, cond-false, le-leb}
use Rattle.std.proofs.lemmas.List.Sums.{sum_by-cons}
use Rattle.cw_types.specs.Epochs.{rises_from}
use Rattle.cw_rules.specs.Accepted.{first_some}
use Rattle.cw_rules.specs.Owed.{when}
use Rattle.cw_rules.specs.Reached.{In}

-- one of two answers
pub or_some : {Y : Type 0} (a b : Option Y) (y : Y) → option_or a b ≡ Some y
    → (a ≡ Some y) ⊎ (b ≡ Some y)
or_some None b y h = inr h
or_some (Some x) b y h = inl h

-- what `when` answers
pub when_some : {X : Type 0} (b : Bool) (x y : X) → when b x ≡ Some y → (b ≡ true) × (x ≡ y)
when_some true x y h = (refl, cc)
when_some false x y h = cc

-- the answer of a search is the answer at some element
pub first_some_at : {X Y : Type 0} (f : X → Option Y) (P : X → Type 0) (Q : Y → Type 0)
    (xs : List X)
    → AllByRecursion P xs → ((x : X) (y : Y) → P x → f x ≡ Some y → Q y) → (y : Y)
    → first_some f xs ≡ Some y → Q y
first_some_at f P Q [] a g y h = cc
first_some_at {X} {Y} f P Q (x ∷ xs) a g y h =
    go (or_some (f x) (first_some f xs) y h) (first_some_at f P Q xs a.1 g y)
  where
    go : (f x ≡ Some y) ⊎ (first_some f xs ≡ Some y) → (first_some f xs ≡ Some y → Q y) → Q y
    go (inl e) later = g x y a.0 e
    go (inr e) later = later e

-- nothing need be known of the elements
pub all_true : {X : Type 0} (xs : List X) → AllByRecursion (λ _. Unit {0}) xs
all_true [] = tt
all_true (x ∷ xs) = (tt, all_true xs)

-- what a value of an `option_and_then` is
pub and_then_some : {T U : Type 0} (f : T → Option U) (o : Option T) (u : U)
    → option_and_then f o ≡ Some u → (t : T) × (o ≡ Some t) × (f t ≡ Some u)
and_then_some f None u h = cc
and_then_some f (Some t) u h = (t, refl, h)

pub map_some : {T U : Type 0} (f : T → U) (o : Option T) (u : U) → option_map f o ≡ Some u
    → (t : T) × (o ≡ Some t) × (f t ≡ u)
map_some f None u h = cc
map_some f (Some t) u h = (t, refl, cc)

-- a test of the value of an option
pub map_or_true : {T : Type 0} (f : T → Bool) (o : Option T) → option_map_or f o false ≡ true
    → (t : T) × (o ≡ Some t) × (f t ≡ true)
map_or_true f None h = cc
map_or_true f (Some t) h = (t, refl, h)

-- what rises from a number rises from a lower one
pub rises_lower : (low high : ℕ) (xs : List ℕ) → low ≤ high → rises_from high xs ≡ true
    → rises_from low xs ≡ true
rises_lower low high [] le h = refl
rises_lower low high (x ∷ xs) le h =
    let p = and_parts (nat_le high x) (rises_from (x + 1) xs) h in
    and_from (nat_le low x) (rises_from (x + 1) xs)
    (le-leb low x (omega (arith, leb-true high x p.0))) p.1

-- a filter of a rising list rises
pub filter_rises : (p : ℕ → Bool) (low : ℕ) (xs : List ℕ) → rises_from low xs ≡ true
    → rises_from low (filter p xs) ≡ true
filter_rises p low [] h = refl
filter_rises p low (x ∷ xs) h =
    let a = and_parts (nat_le low x) (rises_from (x + 1) xs) h in
    kept (p x) a.0 (filter_rises p (x + 1) xs a.1)
  where
    kept : (b : Bool) → nat_le low x ≡ true → rises_from (x + 1) (filter p xs) ≡ true
        → rises_from low (cond b (x ∷ filter p xs) (filter p xs)) ≡ true
    kept true le r = and_from (nat_le low x) (rises_from (x + 1) (filter p xs)) le r
    kept false le r = rises_lower low (x + 1) (filter p xs) (omega (arith, leb-true low x le)) r

-- tests that are true together are one
pub one_test : (a b : Bool) → (a ≡ true → b ≡ true) → (b ≡ true → a ≡ true) → a ≡ b
one_test true true f g = refl
one_test true false f g = sym (f refl)
one_test false true f g = g refl
one_test false false f g = refl

abbrev pub is_in : List ℕ → ℕ → Bool
is_in xs i = list_any (λ j. j == i) xs

-- each number of a filter is in the list and passes
pub filter_in : (p : ℕ → Bool) (xs : List ℕ)
    → AllByRecursion (λ i. IsTrue (is_in xs i) × (p i ≡ true)) (filter p xs)
filter_in p xs = from xs (λ i h. h)
  where
    kept : (x : ℕ) (rest : List ℕ) → is_in xs x ≡ true
        → AllByRecursion (λ i. IsTrue (is_in xs i) × (p i ≡ true)) rest
        → (p x ≡ true) ⊎ (p x ≡ false)
        → AllByRecursion (λ i. IsTrue (is_in xs i) × (p i ≡ true)) (cond (p x) (x ∷ rest) rest)
    kept x rest i a (inl t) =
        subst (AllByRecursion (λ i. IsTrue (is_in xs i) × (p i ≡ true)))
        (sym (cond-true (p x) (x ∷ rest) rest t)) ((i, t), a)
    kept x rest i a (inr f) =
        subst (AllByRecursion (λ i. IsTrue (is_in xs i) × (p i ≡ true)))
        (sym (cond-false (p x) (x ∷ rest) rest f)) a

    from : (ys : List ℕ) → ((i : ℕ) → is_in ys i ≡ true → is_in xs i ≡ true)
        → AllByRecursion (λ i. IsTrue (is_in xs i) × (p i ≡ true)) (filter p ys)
    from [] f = tt
    from (y ∷ ys) f =
        kept y (filter p ys) (f y (or_left (y == y) (is_in ys y) (eq-eqb y y refl)))
        (from ys (λ i h. f i (or_right (y == i) (is_in ys i) h))) (cases_Bool (p y))

-- what is in a rising list isn't below its beginning
pub in_rising : (low i : ℕ) (xs : List ℕ) → rises_from low xs ≡ true → is_in xs i ≡ true → low ≤ i
in_rising low i [] u h = absurd (false≢true h)
in_rising low i (x ∷ xs) u h =
    go (and_parts (nat_le low x) (rises_from (x + 1) xs) u) (or_cases (x == i) (is_in xs i) h)
    (in_rising (x + 1) i xs)
  where
    go : (nat_le low x ≡ true) × (rises_from (x + 1) xs ≡ true)
        → ((x == i) ≡ true) ⊎ (is_in xs i ≡ true)
        → (rises_from (x + 1) xs ≡ true → is_in xs i ≡ true → x + 1 ≤ i) → low ≤ i
    go (a, b) (inl e) later = omega (arith, leb-true low x a, eqb-true x i e)
    go (a, b) (inr e) later = omega (arith, leb-true low x a, later b e)

-- a test passed by each number of a range
pub range_all : (p : ℕ → Bool) (low len : ℕ) → list_all p (range_with_len low len) ≡ true → (i : ℕ)
    → low ≤ i → i < low + len → p i ≡ true
range_all p low zero h i le lt = absurd (omega arith)
range_all p low (suc len) h i le lt =
    go (and_parts (p low) (list_all p (range_with_len (low + 1) len)) h) (cases_eq low i)
    (range_all p (low + 1) len)
  where
    go : (p low ≡ true) × (list_all p (range_with_len (low + 1) len) ≡ true)
        → (low ≡ i) ⊎ (low ≡ i → ⊥)
        → (list_all p (range_with_len (low + 1) len) ≡ true → (j : ℕ) → low + 1 ≤ j
        → j < low + 1 + len → p j ≡ true)
        → p i ≡ true
    go (a, b) (inl e) later = subst (λ j. p j ≡ true) e a
    go (a, b) (inr ne) later = later b i (omega arith) (omega arith)

pub all_range : (p : ℕ → Bool) (low len : ℕ) → ((i : ℕ) → low ≤ i → i < low + len → p i ≡ true)
    → list_all p (range_with_len low len) ≡ true
all_range p low zero h = refl
all_range p low (suc len) h =
    and_from (p low) (list_all p (range_with_len (low + 1) len)) (h low (omega arith) (omega arith))
    (all_range p (low + 1) len (λ i a b. h i (omega arith) (omega arith)))

-- ---- membership

pub in_left : {X : Type 0} (x : X) (xs ys : List X) → In x xs → In x (xs ++ ys)
in_left x [] ys h = absurd h
in_left x (y ∷ xs) ys (inl e) = inl e
in_left x (y ∷ xs) ys (inr h) = inr (in_left x xs ys h)

pub in_right : {X : Type 0} (x : X) (xs ys : List X) → In x ys → In x (xs ++ ys)
in_right x [] ys h = h
in_right x (y ∷ xs) ys h = inr (in_right x xs ys h)

pub in_cases : {X : Type 0} (x : X) (xs ys : List X) → In x (xs ++ ys) → In x xs ⊎ In x ys
in_cases x [] ys h = inr h
in_cases x (y ∷ xs) ys (inl e) = inl (inl e)
in_cases x (y ∷ xs) ys (inr h) = go (in_cases x xs ys h)
  where
    go : In x xs ⊎ In x ys → In x (y ∷ xs) ⊎ In x ys
    go (inl a) = inl (inr a)
    go (inr a) = inr a

-- ---- searches and counts

-- searches that answer the same find the same
pub same_first : {X Y : Type 0} (f g : X → Option Y) → ((x : X) → f x ≡ g x) → (xs : List X)
    → first_some f xs ≡ first_some g xs
same_first f g same [] = refl
same_first {Y = Y} f g same (x ∷ xs) =
    ap (λ (o : Option Y). option_or o (first_some f xs)) (same x)
    ∙ ap (option_or (g x)) (same_first f g same xs)

-- what is found in lists end to end
pub first_of_both : {X Y : Type 0} (f : X → Option Y) (xs ys : List X)
    → first_some f (xs ++ ys) ≡ option_or (first_some f xs) (first_some f ys)
first_of_both f [] ys = refl
first_of_both {Y = Y} f (x ∷ xs) ys = go (f x) refl (first_of_both f xs ys)
  where
    go : (o : Option Y) → f x ≡ o
        → first_some f (xs ++ ys) ≡ option_or (first_some f xs) (first_some f ys)
        → option_or (f x) (first_some f (xs ++ ys))
        ≡ option_or (option_or (f x) (first_some f xs)) (first_some f ys)
    go (Some y) e rest = rw e refl
    go None e rest = rw e rest

-- what is found from a place on, by what is found at it
pub first_from : {X Y : Type 0} (f : X → Option Y) (xs : List X) (i : ℕ) (x : X) → i < length xs
    → x ≡ get_or xs i x
    → first_some f (drop i xs) ≡ option_or (f x) (first_some f (drop (i + 1) xs))
first_from f xs i x l e =
    rw (add-one, drop-cons xs i x)
    (ap (λ z. option_or (f z) (first_some f (drop (suc i) xs))) (sym e))

-- it is found there
pub first_here : {X Y : Type 0} (f : X → Option Y) (xs : List X) (i : ℕ) (x : X) (y : Y)
    → i < length xs → x ≡ get_or xs i x → f x ≡ Some y → first_some f (drop i xs) ≡ first_some f xs
    → Some y ≡ first_some f xs
first_here f xs i x y l e h inv = sym (sym inv ∙ (first_from f xs i x l e ∙ rw h refl))

-- nothing is found there
pub first_next : {X Y : Type 0} (f : X → Option Y) (xs : List X) (i : ℕ) (x : X) → i < length xs
    → x ≡ get_or xs i x → f x ≡ None → first_some f (drop i xs) ≡ first_some f xs
    → first_some f (drop (i + 1) xs) ≡ first_some f xs
first_next f xs i x l e h inv = sym (first_from f xs i x l e ∙ rw h refl) ∙ inv

-- what is kept of one more
pub filter_map_more : {X Y : Type 0} (f : X → Option Y) (xs : List X) (x : X)
    → filter_map f (xs ++ x ∷ []) ≡ filter_map f xs ++ option_map_or (λ y. y ∷ []) (f x) []
filter_map_more {Y = Y} f [] x = go (f x) refl
  where
    go : (o : Option Y) → f x ≡ o → filter_map f (x ∷ []) ≡ option_map_or (λ y. y ∷ []) (f x) []
    go (Some y) e = rw e refl
    go None e = rw e refl
filter_map_more {Y = Y} f (z ∷ xs) x = go (f z) refl (filter_map_more f xs x)
  where
    go : (o : Option Y) → f z ≡ o
        → filter_map f (xs ++ x ∷ []) ≡ filter_map f xs ++ option_map_or (λ y. y ∷ []) (f x) []
        → filter_map f (z ∷ (xs ++ x ∷ []))
        ≡ filter_map f (z ∷ xs) ++ option_map_or (λ y. y ∷ []) (f x) []
    go (Some y) e rest = rw e (ap (λ l. y ∷ l) rest)
    go None e rest = rw e rest

-- what a test adds to a count
unfoldable pub counts_as : Bool → ℕ
counts_as b = cond b 1 0

pub count-cons : (p : ℕ → Bool) (i : ℕ) (is : List ℕ)
    → count_by p (i ∷ is) ≡ counts_as (p i) + count_by p is
unfolding counts_as
count-cons p i is = sum_by-cons (λ x. cond (p x) 1 0) i is

-- ---- elements

-- what holds of the elements of two lists holds of those of both
pub all_both : {X : Type 0} (P : X → Type 0) (xs ys : List X) → AllByRecursion P xs
    → AllByRecursion P ys → AllByRecursion P (xs ++ ys)
all_both P [] ys a b = b
all_both P (x ∷ xs) ys a b = (a.0, all_both P xs ys a.1 b)

-- what stands somewhere stands there where others are behind it
pub get_front : {X : Type 0} (xs ys : List X) (i : ℕ) (x : X) → slice_get xs i ≡ Some x
    → slice_get (xs ++ ys) i ≡ Some x
get_front [] ys i x h = cc
get_front (z ∷ zs) ys zero x h = h
get_front (z ∷ zs) ys (suc i) x h = get_front zs ys i x h
