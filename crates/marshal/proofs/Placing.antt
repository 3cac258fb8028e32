-- Where the first of some elements stands, and a map that keeps it.
use Rattle.std.proofs.Common.{◌≡◌, ℕ, suc, ◌+◌, ◌<◌, ◌≤◌, ◌&&◌, ◌||◌, ◌==◌, ◌⊎◌, inl, inr, Bool, true, false, cond, nat_lt, refl, sym, ◌∙◌, ap, subst, arith, eq-eqb, List, [], ◌∷◌, ◌++◌, length, Option, Some, None, is_some, slice_get, option_and_then, if◌then◌else◌}
use Rattle.std.specs.List.{find, list_any, position, position_or_len}
use Rattle.std.specs.Map.{lookup}
use Rattle.std.specs.Option.{option_map, option_map_or, option_or}
use Rattle.std.specs.Ordering.{is_eq}
use Rattle.std.specs.declared.cmp.Ordering.{Ordering}
use Rattle.std.proofs.lemmas.Bool.{cases_lt, false≢true, le-ltb, lt-ltb}
use Rattle.std.proofs.lemmas.Bool.Decides.{nat_tests}
use Rattle.std.proofs.lemmas.List.Folds.{find_at}
use Rattle.std.proofs.lemmas.Option.{same_Some, slice_get_past}
use Rattle.cw_types.specs.Same.{same_commitment}
use Rattle.cw_types.specs.declared.commitment.Commitment.{Commitment}
use Rattle.cw_types.specs.declared.note.Note.{Note}
use Rattle.cw_rules.specs.Accepted.{first_some}
use Rattle.cw_rules.specs.Held.{noted_block_of}
use Rattle.cw_rules.specs.Notes.{is_block}
use Rattle.marshal.specs.Placed.{HasFirsts, KeepsFirst, LetsGo}

-- ---- the place of the first

pub position_cons : {X : Type 0} (p : X → Bool) (x : X) (xs : List X)
    → position p (x ∷ xs) ≡ cond (p x) (Some 0) (option_map (λ i. 1 + i) (position p xs))
position_cons p x xs = go (p x) refl
  where
    by : (n : ℕ) → (n < length xs) ⊎ (length xs ≤ n)
        → cond (nat_lt (1 + n) (suc (length xs))) (Some (1 + n)) None
        ≡ option_map (λ i. 1 + i) (cond (nat_lt n (length xs)) (Some n) None)
    by n (inl h) =
        rw (lt-ltb (1 + n) (suc (length xs)) (omega arith), lt-ltb n (length xs) h) refl
    by n (inr h) =
        rw (le-ltb (1 + n) (suc (length xs)) (omega arith), le-ltb n (length xs) h) refl

    go : (b : Bool) → p x ≡ b
        → position p (x ∷ xs) ≡ cond b (Some 0) (option_map (λ i. 1 + i) (position p xs))
    go true e = rw (e, lt-ltb 0 (suc (length xs)) (omega arith)) refl
    go false e = rw e (by (position_or_len p xs) (cases_lt (position_or_len p xs) (length xs)))

-- one more at the end
pub position_more : {X : Type 0} (p : X → Bool) (xs : List X) (x : X)
    → position p (xs ++ x ∷ [])
    ≡ option_or (position p xs) (if p x then Some (length xs) else None)
position_more p [] x = position_cons p x [] ∙ go (p x)
  where
    go : (b : Bool) → cond b (Some 0) (option_map (λ i. 1 + i) (position p []))
        ≡ option_or (position p []) (if b then Some 0 else None)
    go true = refl
    go false = refl
position_more p (y ∷ ys) x =
    position_cons p y (ys ++ x ∷ [])
    ∙ (ap (λ o. cond (p y) (Some 0) (option_map (λ i. 1 + i) o)) (position_more p ys x)
    ∙ (go (p y) (position p ys) (p x)
    ∙ sym
    (ap (λ o. option_or o (if p x then Some (suc (length ys)) else None)) (position_cons p y ys))))
  where
    go : (a : Bool) (o : Option ℕ) (b : Bool)
        → cond a (Some 0)
        (option_map (λ i. 1 + i) (option_or o (if b then Some (length ys) else None)))
        ≡ option_or (cond a (Some 0) (option_map (λ i. 1 + i) o))
        (if b then Some (suc (length ys)) else None)
    go true o b = refl
    go false (Some i) b = refl
    go false None true = ap Some (omega arith)
    go false None false = refl

-- there is a place where there is one
pub position_has : {X : Type 0} (p : X → Bool) (xs : List X)
    → is_some (position p xs) ≡ list_any p xs
position_has p [] = refl
position_has p (x ∷ xs) =
    ap is_some (position_cons p x xs) ∙ go (p x) (position p xs) (position_has p xs)
  where
    go : (b : Bool) (o : Option ℕ) → is_some o ≡ list_any p xs
        → is_some (cond b (Some 0) (option_map (λ i. 1 + i) o)) ≡ (b || list_any p xs)
    go true o e = refl
    go false None e = e
    go false (Some i) e = e

pub position_below : {X : Type 0} (p : X → Bool) (xs : List X) (i : ℕ) → position p xs ≡ Some i
    → i < length xs
position_below p xs i = go (position_or_len p xs) (cases_lt (position_or_len p xs) (length xs))
  where
    go : (n : ℕ) → (n < length xs) ⊎ (length xs ≤ n)
        → cond (nat_lt n (length xs)) (Some n) None ≡ Some i → i < length xs
    go n (inl h) e =
        subst (λ (m : ℕ). m < length xs)
        (same_Some n i (sym (ap (λ b. cond b (Some n) None) (lt-ltb n (length xs) h)) ∙ e)) h
    go n (inr h) e =
        absurd
        (false≢true
        (ap is_some (sym (ap (λ b. cond b (Some n) None) (le-ltb n (length xs) h)) ∙ e)))

pub find_position : {X : Type 0} (p : X → Bool) (xs : List X)
    → find p xs ≡ option_and_then (slice_get xs) (position p xs)
find_position p xs =
    find_at p xs ∙ go (position_or_len p xs) (cases_lt (position_or_len p xs) (length xs))
  where
    go : (n : ℕ) → (n < length xs) ⊎ (length xs ≤ n)
        → slice_get xs n ≡ option_and_then (slice_get xs)
        (cond (nat_lt n (length xs)) (Some n) None)
    go n (inl h) = rw (lt-ltb n (length xs) h) refl
    go n (inr h) = rw (le-ltb n (length xs) h) (slice_get_past xs n h)

-- ---- the first Block note

found_block : (c : Commitment) (notes : List Note)
    → first_some (noted_block_of c) notes
    ≡ option_and_then (noted_block_of c) (find (is_block c) notes)
found_block c [] = refl
found_block c (Note.Block d b ∷ notes) = go (same_commitment c d) refl (found_block c notes)
  where
    go : (s : Bool) → same_commitment c d ≡ s
        → first_some (noted_block_of c) notes
        ≡ option_and_then (noted_block_of c) (find (is_block c) notes)
        → option_or (cond s (Some b) None) (first_some (noted_block_of c) notes)
        ≡ option_and_then (noted_block_of c)
        (cond s (Some (Note.Block d b)) (find (is_block c) notes))
    go true e more = rw e refl
    go false e more = more
found_block c (Note.Ack h ∷ notes) = found_block c notes
found_block c (Note.Verified e v d ∷ notes) = found_block c notes
found_block c (Note.Certified p ∷ notes) = found_block c notes
found_block c (Note.Vote v ∷ notes) = found_block c notes
found_block c (Note.Cert s ∷ notes) = found_block c notes
found_block c (Note.Floor h ∷ notes) = found_block c notes
found_block c (Note.Prune h ∷ notes) = found_block c notes
found_block c (Note.Epoch e d ∷ notes) = found_block c notes

-- it is the block of the note at its place
pub block_at_place : (c : Commitment) (notes : List Note)
    → first_some (noted_block_of c) notes
    ≡ option_and_then (λ i. option_and_then (noted_block_of c) (slice_get notes i))
    (position (is_block c) notes)
block_at_place c notes =
    found_block c notes
    ∙ (ap (option_and_then (noted_block_of c)) (find_position (is_block c) notes)
    ∙ go (position (is_block c) notes))
  where
    go : (o : Option ℕ)
        → option_and_then (noted_block_of c) (option_and_then (slice_get notes) o)
        ≡ option_and_then (λ i. option_and_then (noted_block_of c) (slice_get notes i)) o
    go None = refl
    go (Some i) = refl

-- ---- a map that keeps the places

pub or_none : {X : Type 0} (o : Option X) → option_or o None ≡ o
or_none None = refl
or_none (Some x) = refl

pub none_there : {X : Type 0} (o : Option X) → is_some o ≡ false → o ≡ None
none_there None h = refl
none_there (Some x) h = cc

-- over keys, when two are the same, and an order that tells just the others apart
module _ {K : Type 0} (same : K → K → Bool) (cmp : K → K → Ordering)
    (ties : (a b : K) → same a b ≡ is_eq (cmp a b)) where
  -- what a look-up by the order finds
  pub found_by : {X : Type 0} (es : List (K × X)) (q : K)
      → lookup (λ (k : K). is_eq (cmp q k)) es ≡ lookup (same q) es
  found_by [] q = refl
  found_by {X = X} (e ∷ es) q =
      ap (λ b. cond b (Some e.1) (lookup (λ (k : K). is_eq (cmp q k)) es)) (sym (ties q e.0))
      ∙ ap (λ (o : Option X). cond (same q e.0) (Some e.1) o) (found_by es q)

  -- a value at a key, or none there
  pub set_by : {X : Type 0} → ((a b : K) → same a b ≡ same b a) → (key : K) (w : Option X)
      (old new : List (K × X))
      → ((q : K) → lookup (λ (k : K). is_eq (cmp q k)) new
      ≡ cond (is_eq (cmp key q)) w (lookup (λ (k : K). is_eq (cmp q k)) old))
      → (q : K) → lookup (same q) new ≡ cond (same q key) w (lookup (same q) old)
  set_by {X = X} symm key w old new sets q =
      sym (found_by new q)
      ∙ (sets q
      ∙ (ap (λ b. cond b w (lookup (λ (k : K). is_eq (cmp q k)) old))
      (sym (ties key q) ∙ symm key q)
      ∙ ap (λ (o : Option X). cond (same q key) w o) (found_by old q)))

  -- a place at a key that had none
  pub kept_so : (key : K) (place : ℕ) (old new : List (K × ℕ))
      → KeepsFirst (λ a b. is_eq (cmp a b)) key place old new → KeepsFirst same key place old new
  kept_so key place old new kept q =
      sym (found_by new q)
      ∙ (kept q
      ∙ (ap (λ o. option_or o (if is_eq (cmp q key) then Some place else None)) (found_by old q)
      ∙ ap (λ b. option_or (lookup (same q) old) (if b then Some place else None))
      (sym (ties q key))))

  -- a place that goes
  pub gone_so : (key : K) (place : ℕ) (old new : List (K × ℕ))
      → LetsGo (λ a b. is_eq (cmp a b)) key place old new → LetsGo same key place old new
  gone_so key place old new gone q =
      sym (found_by new q)
      ∙ (gone q
      ∙ (ap
      (λ (o : Option ℕ).
      if is_eq (cmp q key) && option_map_or (λ at. at == place) o false then None else o)
      (found_by old q)
      ∙ ap
      (λ b.
      if b && option_map_or (λ at. at == place) (lookup (same q) old) false then None
      else lookup (same q) old)
      (sym (ties q key))))

module _ {K X : Type 0} (same : K → K → Bool) (p : K → X → Bool) where
  -- an element that is of a key so
  pub kept_first : (old new : List (K × ℕ)) (xs : List X) (x : X) (key : K) (place : ℕ)
      → ((q : K) → p q x ≡ same q key) → HasFirsts same p old xs
      → KeepsFirst same key place old new → place ≡ length xs
      → HasFirsts same p new (xs ++ x ∷ [])
  kept_first old new xs x key place of has kept at q =
      kept q
      ∙ (ap (λ o. option_or o (if same q key then Some place else None)) (has q)
      ∙ (ap (λ (n : ℕ). option_or (position (p q) xs) (if same q key then Some n else None)) at
      ∙ (ap (λ s. option_or (position (p q) xs) (if s then Some (length xs) else None))
      (sym (of q))
      ∙ sym (position_more (p q) xs x))))

  -- the last element goes, which is of a key so
  pub first_gone : (old new : List (K × ℕ)) (xs : List X) (x : X) (key : K) (place : ℕ)
      → ((q : K) → p q x ≡ same q key) → HasFirsts same p old (xs ++ x ∷ [])
      → LetsGo same key place old new → place ≡ length xs → HasFirsts same p new xs
  first_gone old new xs x key place of has gone at q =
      gone q ∙ go (position (p q) xs) refl (same q key) refl
    where
      was : lookup (same q) old
          ≡ option_or (position (p q) xs) (if same q key then Some (length xs) else None)
      was =
          has q
          ∙ (position_more (p q) xs x
          ∙ ap (λ s. option_or (position (p q) xs) (if s then Some (length xs) else None)) (of q))

      go : (o : Option ℕ) → position (p q) xs ≡ o → (s : Bool) → same q key ≡ s
          → (if same q key && option_map_or (λ i. i == place) (lookup (same q) old) false then None
          else lookup (same q) old)
          ≡ position (p q) xs
      go (Some i) e s f =
          let there : lookup (same q) old ≡ Some i = rw (was, e) refl in
          let low = position_below (p q) xs i e in
          let other : (i == place) ≡ false = grind (arith, nat_tests, low, at) in
          rw (there, other, e) (no (same q key))
        where
          no : (b : Bool) → (if b && false then None else Some i) ≡ Some i
          no true = refl
          no false = refl
      go None e true f =
          let there : lookup (same q) old ≡ Some (length xs) = rw (was, e, f) refl in
          let is : (length xs == place) ≡ true = eq-eqb (length xs) place (sym at) in
          rw (there, is, e, f) refl
      go None e false f =
          let there : lookup (same q) old ≡ None = rw (was, e, f) refl in
          rw (there, e, f) refl

  -- an element that is of no key, at the end
  pub first_same : (es : List (K × ℕ)) (xs : List X) (x : X) → ((q : K) → p q x ≡ false)
      → HasFirsts same p es xs → HasFirsts same p es (xs ++ x ∷ [])
  first_same es xs x none has q =
      has q
      ∙ (sym (or_none (position (p q) xs))
      ∙ (ap (λ s. option_or (position (p q) xs) (if s then Some (length xs) else None))
      (sym (none q))
      ∙ sym (position_more (p q) xs x)))

  -- and without it
  pub first_less : (es : List (K × ℕ)) (xs : List X) (x : X) → ((q : K) → p q x ≡ false)
      → HasFirsts same p es (xs ++ x ∷ []) → HasFirsts same p es xs
  first_less es xs x none has q =
      has q
      ∙ (position_more (p q) xs x
      ∙ (ap (λ s. option_or (position (p q) xs) (if s then Some (length xs) else None)) (none q)
      ∙ or_none (position (p q) xs)))
