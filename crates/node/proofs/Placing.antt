-- Where the first of what came stands, and a map that keeps it.
use Rattle.std.proofs.Common.{◌≡◌, ℕ, zero, suc, ◌||◌, take, drop, length-append, subst, unwrap_or, ◌+◌, ◌<◌, ◌≤◌, ◌⊎◌, inl, inr, Bool, true, false, cond, if◌then◌else◌, nat_lt, refl, sym, ◌∙◌, ap, arith, List, [], ◌∷◌, ◌++◌, length, Option, Some, None, is_some, option_and_then, slice_get}
use Rattle.std.specs.List.{find, list_any, position, position_or_len}
use Rattle.std.specs.Map.{lookup}
use Rattle.std.specs.Option.{option_map, option_map_or, option_or}
use Rattle.std.specs.Ordering.{is_eq}
use Rattle.std.proofs.lemmas.Bool.{cases_lt, false≢true, le-ltb, lt-ltb}
use Rattle.std.proofs.lemmas.List.Folds.{find_at, list_any-append}
use Rattle.std.proofs.lemmas.Option.{slice_get_past}
use Rattle.cw_types.specs.Block.{Block}
use Rattle.cw_types.specs.Order.{commitment_cmp}
use Rattle.cw_types.specs.OrderLaws.{commitments_are_told, commitments_tie}
use Rattle.cw_types.specs.Same.{same_block, same_commitment}
use Rattle.cw_types.specs.declared.commitment.Commitment.{Commitment}
use Rattle.cw_types.specs.declared.note.Note.{Note}
use Rattle.cw_types.proofs.Ordered.{found_same}
use Rattle.cw_types.proofs.Same.{same_block-true, same_commitment-true, same_commitment_self}
use Rattle.cw_rules.specs.Accepted.{first_some}
use Rattle.cw_rules.specs.Held.{noted_block_of}
use Rattle.cw_rules.specs.Notes.{is_block}
use Rattle.node.specs.Arriving.{HasFirstsUnder, IsNotBeforeFirstChild, PutsFirst, first_child}
use Rattle.node.specs.Holding.{is_whole, shown_under, whole_under}
use Rattle.node.specs.declared.arrival.Arrival.{Arrival}
use Rattle.node.specs.declared.arrival.Shown.{Shown}

-- ---- the place of the first

position_cons : {X : Type 0} (p : X → Bool) (x : X) (xs : List X)
    → position p (x ∷ xs) ≡ cond (p x) (Some 0) (option_map (λ i. 1 + i) (position p xs))
position_cons p x xs = go (p x) refl
  where
    by : (n : ℕ) → (n < length xs) ⊎ (length xs ≤ n)
        → cond (nat_lt (1 + n) (suc (length xs))) (Some (1 + n)) None
        ≡ option_map (λ i. 1 + i) (cond (nat_lt n (length xs)) (Some n) None)
    by n (inl h) =
        rw (lt-ltb (1 + n) (suc (length xs)) (omega arith), lt-ltb n (length xs) h) refl
    by n (inr h) =
        rw (le-ltb (1 + n) (suc (length xs)) (omega arith), le-ltb n (length xs) h) refl

    go : (b : Bool) → p x ≡ b
        → position p (x ∷ xs) ≡ cond b (Some 0) (option_map (λ i. 1 + i) (position p xs))
    go true e = rw (e, lt-ltb 0 (suc (length xs)) (omega arith)) refl
    go false e = rw e (by (position_or_len p xs) (cases_lt (position_or_len p xs) (length xs)))

-- one more at the end
position_more : {X : Type 0} (p : X → Bool) (xs : List X) (x : X)
    → position p (xs ++ x ∷ [])
    ≡ option_or (position p xs) (if p x then Some (length xs) else None)
position_more p [] x = position_cons p x [] ∙ go (p x)
  where
    go : (b : Bool) → cond b (Some 0) (option_map (λ i. 1 + i) (position p []))
        ≡ option_or (position p []) (if b then Some 0 else None)
    go true = refl
    go false = refl
position_more p (y ∷ ys) x =
    position_cons p y (ys ++ x ∷ [])
    ∙ (ap (λ o. cond (p y) (Some 0) (option_map (λ i. 1 + i) o)) (position_more p ys x)
    ∙ (go (p y) (position p ys) (p x)
    ∙ sym
    (ap (λ o. option_or o (if p x then Some (suc (length ys)) else None))
    (position_cons p y ys))))
  where
    go : (a : Bool) (o : Option ℕ) (b : Bool)
        → cond a (Some 0)
        (option_map (λ i. 1 + i) (option_or o (if b then Some (length ys) else None)))
        ≡ option_or (cond a (Some 0) (option_map (λ i. 1 + i) o))
        (if b then Some (suc (length ys)) else None)
    go true o b = refl
    go false (Some i) b = refl
    go false None true = ap Some (omega arith)
    go false None false = refl

find_position : {X : Type 0} (p : X → Bool) (xs : List X)
    → find p xs ≡ option_and_then (slice_get xs) (position p xs)
find_position p xs =
    find_at p xs ∙ go (position_or_len p xs) (cases_lt (position_or_len p xs) (length xs))
  where
    go : (n : ℕ) → (n < length xs) ⊎ (length xs ≤ n)
        → slice_get xs n ≡ option_and_then (slice_get xs)
        (cond (nat_lt n (length xs)) (Some n) None)
    go n (inl h) = rw (lt-ltb n (length xs) h) refl
    go n (inr h) = rw (le-ltb n (length xs) h) (slice_get_past xs n h)

-- ---- what is first found

first_found : {X Y : Type 0} (f : X → Option Y) (xs : List X)
    → first_some f xs ≡ option_and_then f (find (λ x. is_some (f x)) xs)
first_found f [] = refl
first_found {X} {Y} f (x ∷ xs) = go (f x) refl (first_found f xs)
  where
    go : (o : Option Y) → f x ≡ o
        → first_some f xs ≡ option_and_then f (find (λ z. is_some (f z)) xs)
        → option_or o (first_some f xs)
        ≡ option_and_then f (cond (is_some o) (Some x) (find (λ z. is_some (f z)) xs))
    go None e more = more
    go (Some y) e more = sym e

-- it is found at the kept place
pub first_at_place : {X : Type 0} (block_of : Commitment → X → Option Block) (xs : List X)
    (entries : List (Commitment × ℕ)) (c : Commitment)
    → HasFirstsUnder block_of xs entries
    → first_some (block_of c) xs
    ≡ option_and_then (λ i. option_and_then (block_of c) (slice_get xs i))
    (lookup (same_commitment c) entries)
first_at_place block_of xs entries c has =
    first_found (block_of c) xs
    ∙ (ap (option_and_then (block_of c)) (find_position (λ x. is_some (block_of c x)) xs)
    ∙ (go (position (λ x. is_some (block_of c x)) xs)
    ∙ ap (option_and_then (λ i. option_and_then (block_of c) (slice_get xs i))) (sym (has c))))
  where
    go : (o : Option ℕ)
        → option_and_then (block_of c) (option_and_then (slice_get xs) o)
        ≡ option_and_then (λ i. option_and_then (block_of c) (slice_get xs i)) o
    go None = refl
    go (Some i) = refl

-- ---- a map that keeps the places

or_none : {X : Type 0} (o : Option X) → option_or o None ≡ o
or_none None = refl
or_none (Some x) = refl

-- one more that gives a block under one commitment
pub one_placed : {X : Type 0} (block_of : Commitment → X → Option Block) (xs : List X)
    (old new : List (Commitment × ℕ)) (c : Commitment) (place : ℕ) (x : X)
    → HasFirstsUnder block_of xs old → PutsFirst c place old new → place ≡ length xs
    → ((d : Commitment) → is_some (block_of d x) ≡ same_commitment d c)
    → HasFirstsUnder block_of (xs ++ x ∷ []) new
one_placed block_of xs old new c place x has puts at is d =
    puts d
    ∙ ((λ i. option_or (has d i) (if sym (is d) i then Some (at i) else None))
    ∙ sym (position_more (λ z. is_some (block_of d z)) xs x))

-- an arrival that came whole is under its commitment alone
pub whole_is : (a : Arrival) → is_some a.block ≡ true → (d : Commitment)
    → is_some (whole_under d a) ≡ same_commitment d a.commitment
whole_is a whole d = go a.block whole
  where
    by : (s : Bool) (b : Block) → is_some (cond s (Some b) None) ≡ s
    by true b = refl
    by false b = refl

    go : (o : Option Block) → is_some o ≡ true
        → is_some (option_and_then (λ b. if same_commitment a.commitment d then Some b else None) o)
        ≡ same_commitment d a.commitment
    go None h = absurd (false≢true h)
    go (Some b) h =
        by (same_commitment a.commitment d) b ∙ commitments_are_told.symm a.commitment d

pub shown_is : (x : Shown) (d : Commitment)
    → is_some (shown_under d x) ≡ same_commitment d x.commitment
shown_is x d = go (same_commitment d x.commitment)
  where
    go : (s : Bool) → is_some (cond s (Some x.block) None) ≡ s
    go true = refl
    go false = refl

-- ---- what changes in a map

-- an update at a commitment
abbrev SetsAt : Commitment → ℕ → List (Commitment × ℕ) → List (Commitment × ℕ) → Type 0
SetsAt c place old new =
    (d : Commitment) → lookup (λ (k : Commitment). is_eq (commitment_cmp d k)) new
    ≡ cond (is_eq (commitment_cmp c d)) (Some place)
    (lookup (λ (k : Commitment). is_eq (commitment_cmp d k)) old)

-- what is found at the same commitment
found_at : (es : List (Commitment × ℕ)) (c d : Commitment) → same_commitment d c ≡ true
    → lookup (same_commitment d) es ≡ lookup (same_commitment c) es
found_at es c d h =
    ap (λ (e : Commitment). lookup (same_commitment e) es) (same_commitment-true d c h)

pub first_put : (old new : List (Commitment × ℕ)) (c : Commitment) (place : ℕ)
    → is_some (lookup (λ (k : Commitment). is_eq (commitment_cmp c k)) old) ≡ false
    → SetsAt c place old new → PutsFirst c place old new
first_put old new c place none sets d =
    sym (found_same new d)
    ∙ (sets d
    ∙ ((λ i. cond ((sym (commitments_tie c d) ∙ commitments_are_told.symm c d) i) (Some place)
    (found_same old d i))
    ∙ go (same_commitment d c) refl))
  where
    empty : (o : Option ℕ) → is_some o ≡ false → o ≡ None
    empty None h = refl
    empty (Some i) h = absurd (false≢true (sym h))

    go : (s : Bool) → same_commitment d c ≡ s
        → cond s (Some place) (lookup (same_commitment d) old)
        ≡ option_or (lookup (same_commitment d) old) (if s then Some place else None)
    go true e =
        rw
        (found_at old c d e ∙ empty (lookup (same_commitment c) old)
        (ap is_some (sym (found_same old c)) ∙ none))
        refl
    go false e = sym (or_none (lookup (same_commitment d) old))

pub first_there : (es : List (Commitment × ℕ)) (c : Commitment) (place : ℕ)
    → is_some (lookup (λ (k : Commitment). is_eq (commitment_cmp c k)) es) ≡ true
    → PutsFirst c place es es
first_there es c place some d = go (same_commitment d c) refl
  where
    is : (o : Option ℕ) → is_some o ≡ true → o ≡ option_or o (Some place)
    is None h = absurd (false≢true h)
    is (Some i) h = refl

    go : (s : Bool) → same_commitment d c ≡ s
        → lookup (same_commitment d) es
        ≡ option_or (lookup (same_commitment d) es) (if s then Some place else None)
    go true e =
        is (lookup (same_commitment d) es)
        (ap is_some (found_at es c d e ∙ sym (found_same es c)) ∙ some)
    go false e = sym (or_none (lookup (same_commitment d) es))

-- ---- noted blocks

is_noted : (c : Commitment) (note : Note) → is_block c note ≡ is_some (noted_block_of c note)
is_noted c (Note.Block d b) = go (same_commitment c d)
  where
    go : (t : Bool) → t ≡ is_some (cond t (Some b) None)
    go true = refl
    go false = refl
is_noted c (Note.Ack h) = refl
is_noted c (Note.Verified e v d) = refl
is_noted c (Note.Certified p) = refl
is_noted c (Note.Vote v) = refl
is_noted c (Note.Cert s) = refl
is_noted c (Note.Floor h) = refl
is_noted c (Note.Prune h) = refl
is_noted c (Note.Epoch e d) = refl

-- the places of Block notes are those of the first noted blocks
pub noted_firsts : (notes : List Note) (entries : List (Commitment × ℕ))
    → ((c : Commitment) → lookup (same_commitment c) entries ≡ position (is_block c) notes)
    → HasFirstsUnder noted_block_of notes entries
noted_firsts notes entries places c =
    places c ∙ (λ i. position (λ note. is_noted c note i) notes)

-- ---- the places of children

take_front : {X : Type 0} (n : ℕ) (xs : List X) (x : X) → n ≤ length xs
    → take n (xs ++ x ∷ []) ≡ take n xs
take_front zero xs x h = refl
take_front (suc n) [] x h = absurd (omega arith)
take_front (suc n) (y ∷ ys) x h = ap (λ l. y ∷ l) (take_front n ys x (omega (arith, h)))

take_whole : {X : Type 0} (xs : List X) → take (length xs) xs ≡ xs
take_whole [] = refl
take_whole (x ∷ xs) = ap (λ l. x ∷ l) (take_whole xs)

take_and_drop : {X : Type 0} (p : X → Bool) (n : ℕ) (xs : List X)
    → list_any p xs ≡ (list_any p (take n xs) || list_any p (drop n xs))
take_and_drop p zero xs = refl
take_and_drop p (suc n) [] = refl
take_and_drop p (suc n) (x ∷ xs) = go (p x) (take_and_drop p n xs)
  where
    go : (b : Bool) → list_any p xs ≡ (list_any p (take n xs) || list_any p (drop n xs))
        → (b || list_any p xs) ≡ ((b || list_any p (take n xs)) || list_any p (drop n xs))
    go true e = refl
    go false e = e

-- so the block stands from its place on, if anywhere
pub stands_behind : (xs : List Arrival) (entries : List (Commitment × ℕ)) (b : Block)
    → IsNotBeforeFirstChild xs entries b
    → list_any (is_whole b) (drop (first_child xs entries b) xs) ≡ list_any (is_whole b) xs
stands_behind xs entries b behind =
    sym
    (take_and_drop (is_whole b) (first_child xs entries b) xs
    ∙ ap (λ t. t || list_any (is_whole b) (drop (first_child xs entries b) xs)) behind.none)

-- and nowhere where there is no place
pub stands_nowhere : (xs : List Arrival) (entries : List (Commitment × ℕ)) (b : Block)
    → IsNotBeforeFirstChild xs entries b → lookup (same_commitment b.context.parent) entries ≡ None
    → list_any (is_whole b) xs ≡ false
stands_nowhere xs entries b behind none =
    sym
    (ap (λ o. list_any (is_whole b) (take (unwrap_or o (length xs)) xs)) none
    ∙ ap (list_any (is_whole b)) (take_whole xs))
    ∙ behind.none

-- before the place that was found, or at all, no arrival is the block
record IsLater (xs : List Arrival) (found : Option ℕ) (b : Block) : Type 0 where
  within : unwrap_or found (length xs) ≤ length xs
  none : list_any (is_whole b) (take (unwrap_or found (length xs)) xs) ≡ false

at_most : (n : ℕ) → n ≤ n
at_most n = omega arith

later_front : (xs : List Arrival) (a : Arrival) (n : ℕ) (b : Block) → n ≤ length xs
    → list_any (is_whole b) (take n xs) ≡ false → IsLater (xs ++ a ∷ []) (Some n) b
later_front xs a n b within none = record {
  within = omega (arith, within, length-append xs (a ∷ []));
  none = ap (list_any (is_whole b)) (take_front n xs a within) ∙ none;
}

-- one more that isn't the block
later_other : (xs : List Arrival) (a : Arrival) (b : Block) (found : Option ℕ) → IsLater xs found b
    → is_whole b a ≡ false → IsLater (xs ++ a ∷ []) found b
later_other xs a b (Some n) later other = later_front xs a n b later.within later.none
later_other xs a b None later other = record {
  within = at_most (length (xs ++ a ∷ []));
  none =
      ap (list_any (is_whole b)) (take_whole (xs ++ a ∷ []))
      ∙ (list_any-append (is_whole b) xs (a ∷ [])
      ∙ (λ i. (sym (ap (list_any (is_whole b)) (take_whole xs)) ∙ later.none) i
      || (other i || false)));
}

-- one more, whose place is kept
later_here : (xs : List Arrival) (a : Arrival) (b : Block) (found : Option ℕ) → IsLater xs found b
    → IsLater (xs ++ a ∷ []) (option_or found (Some (length xs))) b
later_here xs a b (Some n) later = later_front xs a n b later.within later.none
later_here xs a b None later =
    later_front xs a (length xs) b (at_most (length xs)) later.none

is_later : (xs : List Arrival) (entries : List (Commitment × ℕ)) (b : Block)
    → IsNotBeforeFirstChild xs entries b
    → IsLater xs (lookup (same_commitment b.context.parent) entries) b
is_later xs entries b behind = record { within = behind.within; none = behind.none }

is_behind : (xs : List Arrival) (entries : List (Commitment × ℕ)) (b : Block)
    → IsLater xs (lookup (same_commitment b.context.parent) entries) b
    → IsNotBeforeFirstChild xs entries b
is_behind xs entries b later = record { within = later.within; none = later.none }

-- what is found once a place was kept
found_put : (c d : Commitment) (place n : ℕ) (old new : List (Commitment × ℕ))
    → PutsFirst c place old new → place ≡ n
    → lookup (same_commitment d) new
    ≡ option_or (lookup (same_commitment d) old) (if same_commitment d c then Some n else None)
found_put c d place n old new puts at =
    puts d
    ∙ ap
    (λ m. option_or (lookup (same_commitment d) old)
    (if same_commitment d c then Some m else None))
    at

-- one more whole block, with its place
pub one_child : (xs : List Arrival) (old new : List (Commitment × ℕ)) (a : Arrival) (d : Block)
    (place : ℕ)
    → a.block ≡ Some d → PutsFirst d.context.parent place old new → place ≡ length xs
    → ((b : Block) → IsNotBeforeFirstChild xs old b)
    → (b : Block) → IsNotBeforeFirstChild (xs ++ a ∷ []) new b
one_child xs old new a d place whole puts at behind b =
    is_behind (xs ++ a ∷ []) new b
    (subst (λ (o : Option ℕ). IsLater (xs ++ a ∷ []) o b)
    (sym (found_put d.context.parent b.context.parent place (length xs) old new puts at))
    (go (same_commitment b.context.parent d.context.parent) refl))
  where
    found : Option ℕ
    found = lookup (same_commitment b.context.parent) old

    later : IsLater xs found b
    later = is_later xs old b (behind b)

    other : same_commitment b.context.parent d.context.parent ≡ false → is_whole b a ≡ false
    other differs =
        ap (λ o. option_map_or (same_block b) o false) whole ∙ by (same_block b d) refl
      where
        by : (t : Bool) → same_block b d ≡ t → same_block b d ≡ false
        by false e = e
        by true e =
            let same : b ≡ d = same_block-true b d e in
            let yes : same_commitment b.context.parent d.context.parent ≡ true =
            ap (λ (x : Block). same_commitment b.context.parent x.context.parent) (sym same)
            ∙ same_commitment_self b.context.parent in
            absurd (false≢true (sym differs ∙ yes))

    go : (t : Bool) → same_commitment b.context.parent d.context.parent ≡ t
        → IsLater (xs ++ a ∷ []) (option_or found (if t then Some (length xs) else None)) b
    go true e = later_here xs a b found later
    go false e =
        subst (λ (o : Option ℕ). IsLater (xs ++ a ∷ []) o b) (sym (or_none found))
        (later_other xs a b found later (other e))
