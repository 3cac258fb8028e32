-- What waits in a lineup, when one of what is named waits or no more does.
use Rattle.std.proofs.Common.{◌≡◌, ◌&&◌, ◌+◌, ◌-◌, ◌<◌, ◌≤◌, ◌==◌, ◌||◌, ℕ, suc, zero, Bool, true, false, cond, not, nat_lt, List, [], ◌∷◌, ◌++◌, length, map, filter, Option, Some, None, refl, sym, subst, ◌∙◌, ap, arith, if◌then◌else◌}
use Rattle.std.specs.Ordering.{is_eq}
use Rattle.cw_types.specs.Same.{same_proposal, same_vote}
use Rattle.cw_types.proofs.Same.{same_proposal-true, same_vote-true}
use Rattle.note_scans.specs.Keys.{key_of, keyed, same_key}
use Rattle.note_scans.specs.declared.key.VoteKey.{VoteKey}
use Rattle.note_scans.proofs.Keys.{found_key, key_cmp, keys_of_same, keys_tie, same_key-true, same_key_self}
use Rattle.voter.proofs.Saying.{PutFirst, first_put}
use Rattle.std.specs.List.{enumerate_from, insert, list_any, position_from}
use Rattle.std.specs.Map.{lookup}
use Rattle.std.proofs.lemmas.List.{length-append}
use Rattle.std.specs.Option.{is_some, option_or}
use Rattle.std.proofs.lemmas.Bool.{and_parts}
use Rattle.voter.specs.Lineup.{IsKeyed, IsLineup, others, passing, place_below, place_of, put_in, set_in, without_repeats}
use Rattle.voter.proofs.Once.{any_found, append_nil, filter_same_test, filter_twice, find_once, once_append}

-- ---- places

module _ {X : Type 0} (p : X → Bool) where
  -- a place is no lower than where the search begins
  place_low : (i : ℕ) (xs : List X) (n : ℕ) → position_from p i xs ≡ Some n → i ≤ n
  place_low i [] n e = cc
  place_low i (x ∷ xs) n e = go (p x) e (place_low (i + 1) xs n)
    where
      go : (b : Bool) → cond b (Some i) (position_from p (i + 1) xs) ≡ Some n
          → (position_from p (i + 1) xs ≡ Some n → i + 1 ≤ n) → i ≤ n
      go true k more = let s : i ≡ n = cc in omega (arith, s)
      go false k more = let l = more k in omega (arith, l)

  -- one more at the end
  place_more : (i : ℕ) (xs : List X) (x : X)
      → position_from p i (xs ++ x ∷ [])
      ≡ option_or (position_from p i xs) (if p x then Some (i + length xs) else None)
  place_more i [] x = ap (λ n. if p x then Some n else None) (omega arith)
  place_more i (y ∷ ys) x = go (p y) (place_more (i + 1) ys x)
    where
      go : (b : Bool)
          → position_from p (i + 1) (ys ++ x ∷ [])
          ≡ option_or (position_from p (i + 1) ys)
          (if p x then Some ((i + 1) + length ys) else None)
          → cond b (Some i) (position_from p (i + 1) (ys ++ x ∷ []))
          ≡ option_or (cond b (Some i) (position_from p (i + 1) ys))
          (if p x then Some (i + length (y ∷ ys)) else None)
      go true more = refl
      go false more =
          more
          ∙ ap
          (λ n. option_or (position_from p (i + 1) ys) (if p x then Some n else None))
          (omega arith)

  -- there is a place where one passes
  place_any : (i : ℕ) (xs : List X) → is_some (position_from p i xs) ≡ list_any p xs
  place_any i [] = refl
  place_any i (x ∷ xs) = go (p x) (place_any (i + 1) xs)
    where
      go : (b : Bool) → is_some (position_from p (i + 1) xs) ≡ list_any p xs
          → is_some (cond b (Some i) (position_from p (i + 1) xs)) ≡ (b || list_any p xs)
      go true more = refl
      go false more = more

same_places : {X : Type 0} (p q : X → Bool) → ((x : X) → p x ≡ q x) → (i : ℕ) (xs : List X)
    → position_from p i xs ≡ position_from q i xs
same_places p q e i [] = refl
same_places p q e i (x ∷ xs) =
    ap (λ b. cond b (Some i) (position_from p (i + 1) xs)) (e x)
    ∙ ap (cond (q x) (Some i)) (same_places p q e (i + 1) xs)

-- ---- those that pass, with their places

module _ {X : Type 0} where
  abbrev pub from : (X → Bool) → ℕ → List X → List (ℕ × X)
  from p i xs = filter (λ (at : ℕ × X). p at.1) (enumerate_from i xs)

  from_append : (p : X → Bool) (i : ℕ) (xs ys : List X)
      → from p i (xs ++ ys) ≡ from p i xs ++ from p (i + length xs) ys
  from_append p i [] ys = ap (λ n. from p n ys) (omega arith)
  from_append p i (x ∷ xs) ys =
      ap (λ l. cond (p x) ((i, x) ∷ l) l)
      (from_append p (i + 1) xs ys
      ∙ ap (λ n. from p (i + 1) xs ++ from p n ys) (omega arith))
      ∙ by (p x)
    where
      by : (b : Bool)
          → cond b ((i, x) ∷ (from p (i + 1) xs ++ from p (i + length (x ∷ xs)) ys))
          (from p (i + 1) xs ++ from p (i + length (x ∷ xs)) ys)
          ≡ cond b ((i, x) ∷ from p (i + 1) xs) (from p (i + 1) xs)
          ++ from p (i + length (x ∷ xs)) ys
      by true = refl
      by false = refl

  -- all stand at the place where the search begins or above
  from_others : (p : X → Bool) (n i : ℕ) (xs : List X) → n < i → others n (from p i xs) ≡ from p i xs
  from_others p n i [] l = refl
  from_others p n i (x ∷ xs) l = go (p x) (from_others p n (i + 1) xs (omega (arith, l)))
    where
      differs : (i == n) ≡ false
      differs = grind (arith, l)

      go : (b : Bool) → others n (from p (i + 1) xs) ≡ from p (i + 1) xs
          → others n (cond b ((i, x) ∷ from p (i + 1) xs) (from p (i + 1) xs))
          ≡ cond b ((i, x) ∷ from p (i + 1) xs) (from p (i + 1) xs)
      go true more = rw differs (ap (λ l. (i, x) ∷ l) more)
      go false more = more

  from_below : (p : X → Bool) (n i : ℕ) (xs : List X) → n < i
      → filter (λ (at : ℕ × X). nat_lt at.0 n) (from p i xs) ≡ []
  from_below p n i [] l = refl
  from_below p n i (x ∷ xs) l = go (p x) (from_below p n (i + 1) xs (omega (arith, l)))
    where
      over : nat_lt i n ≡ false
      over = grind (arith, l)

      go : (b : Bool) → filter (λ (at : ℕ × X). nat_lt at.0 n) (from p (i + 1) xs) ≡ []
          → filter (λ (at : ℕ × X). nat_lt at.0 n)
          (cond b ((i, x) ∷ from p (i + 1) xs) (from p (i + 1) xs))
          ≡ []
      go true more = rw over more
      go false more = more

  -- the values of those that pass
  pub passing_values : (p : X → Bool) (i : ℕ) (xs : List X)
      → map (λ (at : ℕ × X). at.1) (from p i xs) ≡ filter p xs
  passing_values p i [] = refl
  passing_values p i (x ∷ xs) = go (p x) (passing_values p (i + 1) xs)
    where
      go : (b : Bool) → map (λ (at : ℕ × X). at.1) (from p (i + 1) xs) ≡ filter p xs
          → map (λ (at : ℕ × X). at.1) (cond b ((i, x) ∷ from p (i + 1) xs) (from p (i + 1) xs))
          ≡ cond b (x ∷ filter p xs) (filter p xs)
      go true more = ap (λ l. x ∷ l) more
      go false more = more

  -- tests that say the same of each
  pub from_same : (p q : X → Bool) (i : ℕ) (xs : List X) → ((x : X) → p x ≡ q x)
      → from p i xs ≡ from q i xs
  from_same p q i xs e =
      filter_same_test (λ (at : ℕ × X). p at.1) (λ (at : ℕ × X). q at.1) (λ at. e at.1)
      (enumerate_from i xs)

-- ---- one is set

module _ {X : Type 0} (same : X → X → Bool) (is : (a b : X) → same a b ≡ true → a ≡ b)
    (same_self : (a : X) → same a a ≡ true) where
  -- no element stands twice
  abbrev pub distinct : List X → Bool
  distinct [] = true
  distinct (x ∷ xs) = not (list_any (same x) xs) && distinct xs

  any_filter : (p q : X → Bool) (xs : List X) → list_any p xs ≡ false → list_any p (filter q xs) ≡ false
  any_filter p q [] e = refl
  any_filter p q (x ∷ xs) e = go (p x) (q x) refl e (any_filter p q xs)
    where
      go : (a b : Bool) → p x ≡ a → (a || list_any p xs) ≡ false
          → (list_any p xs ≡ false → list_any p (filter q xs) ≡ false)
          → list_any p (cond b (x ∷ filter q xs) (filter q xs)) ≡ false
      go true b f k more = cc
      go false true f k more = rw f (more k)
      go false false f k more = more k

  filter_distinct : (q : X → Bool) (xs : List X) → distinct xs ≡ true → distinct (filter q xs) ≡ true
  filter_distinct q [] e = refl
  filter_distinct q (x ∷ xs) e =
      let parts = and_parts (not (list_any (same x) xs)) (distinct xs) e in
      go (q x) (none (list_any (same x) xs) parts.0) (filter_distinct q xs parts.1)
    where
      none : (b : Bool) → not b ≡ true → b ≡ false
      none true k = cc
      none false k = refl

      go : (b : Bool) → list_any (same x) xs ≡ false → distinct (filter q xs) ≡ true
          → distinct (cond b (x ∷ filter q xs) (filter q xs)) ≡ true
      go true k more = rw (any_filter (same x) q xs k) more
      go false k more = more

  same_back : (a b : X) → same b a ≡ false → same a b ≡ false
  same_back a b e = go (same a b) refl
    where
      go : (s : Bool) → same a b ≡ s → s ≡ false
      go true k =
          let t : same b a ≡ true = ap (same b) (is a b k) ∙ same_self b in
          let f : true ≡ false = sym t ∙ e in
          cc
      go false k = refl

  pub once_distinct : (xs : List X) → distinct (without_repeats same xs) ≡ true
  once_distinct [] = refl
  once_distinct (x ∷ xs) =
      rw (none (without_repeats same xs))
      (filter_distinct (λ y. not (same y x)) (without_repeats same xs) (once_distinct xs))
    where
      none : (ys : List X) → list_any (same x) (filter (λ y. not (same y x)) ys) ≡ false
      none [] = refl
      none (y ∷ ys) = go (same y x) refl (none ys)
        where
          go : (b : Bool) → same y x ≡ b
              → list_any (same x) (filter (λ y. not (same y x)) ys) ≡ false
              → list_any (same x)
              (cond (not b) (y ∷ filter (λ y. not (same y x)) ys) (filter (λ y. not (same y x)) ys))
              ≡ false
          go true e more = more
          go false e more = rw (same_back x y e) more

  module _ (was now : X → Bool) (x : X)
      (agree : (y : X) → same x y ≡ false → was y ≡ now y) where
    -- where it isn't, the tests say the same
    from_agree : (i : ℕ) (xs : List X) → list_any (same x) xs ≡ false → from was i xs ≡ from now i xs
    from_agree i [] e = refl
    from_agree i (y ∷ ys) e = go (same x y) refl e (from_agree (i + 1) ys)
      where
        go : (b : Bool) → same x y ≡ b → (b || list_any (same x) ys) ≡ false
            → (list_any (same x) ys ≡ false → from was (i + 1) ys ≡ from now (i + 1) ys)
            → from was i (y ∷ ys) ≡ from now i (y ∷ ys)
        go true k l more = cc
        go false k l more =
            ap (λ b. cond b ((i, y) ∷ from was (i + 1) ys) (from was (i + 1) ys)) (agree y k)
            ∙ ap (λ l. cond (now y) ((i, y) ∷ l) l) (more l)

    pub set_from : (i : ℕ) (xs : List X) (n : ℕ) → distinct xs ≡ true
        → position_from (same x) i xs ≡ Some n → set_in n x (now x) (from was i xs) ≡ from now i xs
    set_from i [] n d e = cc
    set_from i (y ∷ ys) n d e = go (same x y) refl e (set_from (i + 1) ys n d'.1)
      where
        d' : (not (list_any (same y) ys) ≡ true) × (distinct ys ≡ true)
        d' = and_parts (not (list_any (same y) ys)) (distinct ys) d

        none : (b : Bool) → not b ≡ true → b ≡ false
        none true k = cc
        none false k = refl

        -- it stands here
        here : same x y ≡ true → i ≡ n → set_in n x (now x) (from was i (y ∷ ys)) ≡ from now i (y ∷ ys)
        here s at =
            subst (λ z. set_in n x (now x) (from was i (z ∷ ys)) ≡ from now i (z ∷ ys)) (is x y s)
            (subst (λ m. set_in m x (now x) (from was i (x ∷ ys)) ≡ from now i (x ∷ ys)) at
            (at_head (was x) (now x)))
          where
            rest : from was (i + 1) ys ≡ from now (i + 1) ys
            rest =
                from_agree (i + 1) ys
                (none (list_any (same x) ys)
                (ap (λ z. not (list_any (same z) ys)) (is x y s) ∙ d'.0))

            self : (i == i) ≡ true
            self = grind arith

            alone : (b : Bool)
                → others i (cond b ((i, x) ∷ from was (i + 1) ys) (from was (i + 1) ys))
                ≡ from now (i + 1) ys
            alone true = rw self (from_others was i (i + 1) ys (omega arith) ∙ rest)
            alone false = from_others was i (i + 1) ys (omega arith) ∙ rest

            at_head : (a b : Bool)
                → set_in i x b (cond a ((i, x) ∷ from was (i + 1) ys) (from was (i + 1) ys))
                ≡ cond b ((i, x) ∷ from now (i + 1) ys) (from now (i + 1) ys)
            at_head a true =
                ap (put_in i x) (alone a)
                ∙ ap (λ l. insert (from now (i + 1) ys) (length l) (i, x))
                (from_below now i (i + 1) ys (omega arith))
            at_head a false = alone a

        -- it stands further on
        further : same x y ≡ false → i < n
            → set_in n x (now x) (from was (i + 1) ys) ≡ from now (i + 1) ys
            → set_in n x (now x) (from was i (y ∷ ys)) ≡ from now i (y ∷ ys)
        further s l more =
            ap (λ b. set_in n x (now x) (cond b ((i, y) ∷ from was (i + 1) ys) (from was (i + 1) ys)))
            (agree y s)
            ∙ by (now y) (now x) more
          where
            differs : (i == n) ≡ false
            differs = grind (arith, l)

            under : nat_lt i n ≡ true
            under = grind (arith, l)

            by : (a b : Bool) → set_in n x b (from was (i + 1) ys) ≡ from now (i + 1) ys
                → set_in n x b (cond a ((i, y) ∷ from was (i + 1) ys) (from was (i + 1) ys))
                ≡ cond a ((i, y) ∷ from now (i + 1) ys) (from now (i + 1) ys)
            by true true k = rw (differs, under) (ap (λ l. (i, y) ∷ l) k)
            by true false k = rw differs (ap (λ l. (i, y) ∷ l) k)
            by false b k = k

        go : (b : Bool) → same x y ≡ b
            → cond b (Some i) (position_from (same x) (i + 1) ys) ≡ Some n
            → (position_from (same x) (i + 1) ys ≡ Some n
            → set_in n x (now x) (from was (i + 1) ys) ≡ from now (i + 1) ys)
            → set_in n x (now x) (from was i (y ∷ ys)) ≡ from now i (y ∷ ys)
        go true s k more = let at : i ≡ n = cc in here s at
        go false s k more =
            let low = place_low (same x) (i + 1) ys n k in
            further s (omega (arith, low)) (more k)

-- ---- a lineup

-- it passes, and is another
abbrev but : {X : Type 0} → (X → X → Bool) → (X → Bool) → X → X → Bool
but same was x y = was y && not (same x y)

module _ {K X : Type 0} (eq : K → K → Bool) (key : X → K) (same : X → X → Bool) where
  -- a key that has no place yet
  pub lineup_prepared : (passes : X → Bool) (named : List X) (old new : List (K × ℕ)) (count : ℕ)
      (waiting : List (ℕ × X)) (k : K)
      → ((q : K) → lookup (eq q) new
      ≡ option_or (lookup (eq q) old) (if eq q k then Some 0 else None))
      → IsLineup eq key same passes named old count waiting
      → IsLineup eq key same passes named new count waiting
  lineup_prepared passes named old new count waiting k puts is = record {
    counted = is.counted;
    placed = λ q. ap place_of (puts q) ∙ (none (lookup (eq q) old) (eq q k) ∙ is.placed q);
    waits = is.waits;
  }
    where
      none : (o : Option ℕ) (b : Bool)
          → place_of (option_or o (if b then Some 0 else None)) ≡ place_of o
      none None true = refl
      none None false = refl
      none (Some n) b = refl

  -- tests that say the same
  pub lineup_same : (was now : X → Bool) (named : List X) (places : List (K × ℕ)) (count : ℕ)
      (waiting : List (ℕ × X)) → ((x : X) → was x ≡ now x)
      → IsLineup eq key same was named places count waiting
      → IsLineup eq key same now named places count waiting
  lineup_same was now named places count waiting e is = record {
    counted = is.counted;
    placed = is.placed;
    waits = is.waits ∙ from_same was now 0 (without_repeats same named) e;
  }

  -- those that pass a second test are left
  pub lineup_left : (was left now : X → Bool) (named : List X) (places : List (K × ℕ)) (count : ℕ)
      (old new : List (ℕ × X)) → ((x : X) → (was x && left x) ≡ now x)
      → new ≡ filter (λ (at : ℕ × X). left at.1) old
      → IsLineup eq key same was named places count old
      → IsLineup eq key same now named places count new
  lineup_left was left now named places count old new e f is = record {
    counted = is.counted;
    placed = is.placed;
    waits =
        f
        ∙ (ap (filter (λ (at : ℕ × X). left at.1)) is.waits
        ∙ (filter_twice (λ (at : ℕ × X). left at.1) (λ (at : ℕ × X). was at.1)
        (enumerate_from 0 (without_repeats same named))
        ∙ from_same (λ x. was x && left x) now 0 (without_repeats same named) e));
  }

module _ {K X : Type 0} (eq : K → K → Bool) (key : X → K) (same : X → X → Bool)
    (laws : IsKeyed eq key same) where
  same_self : (a : X) → same a a ≡ true
  same_self a = laws.tie a a ∙ laws.self (key a)

  abbrev once : List X → List X
  once = without_repeats same

  -- the place of an element, by its key
  found_by : (x : X) (i : ℕ) (xs : List X)
      → position_from (λ y. eq (key x) (key y)) i xs ≡ position_from (same x) i xs
  found_by x i xs =
      same_places (λ y. eq (key x) (key y)) (same x) (λ y. sym (laws.tie x y)) i xs

  -- it is there where it is among all that are named
  any_once : (x : X) (xs : List X) → list_any (same x) (once xs) ≡ list_any (same x) xs
  any_once x xs = any_found (same x) (once xs) xs (find_once same laws.is (same x) xs)

  once_new : (xs : List X) (x : X) → list_any (same x) (once xs) ≡ false
      → once (xs ++ x ∷ []) ≡ once xs ++ x ∷ []
  once_new xs x e =
      once_append same laws.is xs (x ∷ [])
      ∙ ap (λ b. once xs ++ cond (not b) (x ∷ []) []) (sym (any_once x xs) ∙ e)

  once_old : (xs : List X) (x : X) → list_any (same x) (once xs) ≡ true
      → once (xs ++ x ∷ []) ≡ once xs
  once_old xs x e =
      once_append same laws.is xs (x ∷ [])
      ∙ (ap (λ b. once xs ++ cond (not b) (x ∷ []) []) (sym (any_once x xs) ∙ e)
      ∙ append_nil (once xs))

  -- one that is named again
  pub named_again : (xs : List X) (x : X) → list_any (same x) xs ≡ true
      → once (xs ++ x ∷ []) ≡ once xs
  named_again xs x e = once_old xs x (any_once x xs ∙ e)

  -- one that is named for the first time
  pub named_first : (xs : List X) (x : X) → list_any (same x) xs ≡ false
      → once (xs ++ x ∷ []) ≡ once xs ++ x ∷ []
  named_first xs x e = once_new xs x (any_once x xs ∙ e)

  -- whether it is named, by its place
  pub named_by_place : (passes : X → Bool) (named : List X) (places : List (K × ℕ)) (count : ℕ)
      (waiting : List (ℕ × X)) (x : X) (n : ℕ)
      → IsLineup eq key same passes named places count waiting
      → place_of (lookup (eq (key x)) places) ≡ place_below n
      → nat_lt 0 n ≡ list_any (same x) named
  named_by_place passes named places count waiting x n is e =
      go n
      ∙ (ap is_some (sym e ∙ (is.placed (key x) ∙ found_by x 0 (once named)))
      ∙ (place_any (same x) 0 (once named) ∙ any_once x named))
    where
      go : (m : ℕ) → nat_lt 0 m ≡ is_some (place_below m)
      go zero = grind arith
      go (suc m) = grind arith

  -- of one more it may say otherwise
  module _ (was now : X → Bool) (x : X) (agree : (y : X) → same x y ≡ false → was y ≡ now y)
      (named : List X) (places : List (K × ℕ)) (count : ℕ) (old : List (ℕ × X))
      (is : IsLineup eq key same was named places count old) where
    there : (o : Option ℕ) → place_of (lookup (eq (key x)) places) ≡ o
        → is_some o ≡ list_any (same x) (once named)
    there o e =
        ap is_some (sym e ∙ (is.placed (key x) ∙ found_by x 0 (once named)))
        ∙ place_any (same x) 0 (once named)

    pub lineup_renewed : (n : ℕ) (new : List (ℕ × X))
        → place_of (lookup (eq (key x)) places) ≡ Some n → new ≡ set_in n x (now x) old
        → IsLineup eq key same now named places count new
    lineup_renewed n new e f = record {
      counted = is.counted;
      placed = is.placed;
      waits =
          f
          ∙ (ap (set_in n x (now x)) is.waits
          ∙ set_from same laws.is same_self was now x agree 0 (once named) n
          (once_distinct same laws.is same_self named)
          (sym (found_by x 0 (once named)) ∙ (sym (is.placed (key x)) ∙ e)));
    }

    pub lineup_absent : place_of (lookup (eq (key x)) places) ≡ None
        → IsLineup eq key same now named places count old
    lineup_absent e = record {
      counted = is.counted;
      placed = is.placed;
      waits =
          is.waits
          ∙ from_agree same laws.is same_self was now x agree 0 (once named) (sym (there None e));
    }

    -- it is named again
    pub lineup_again : (n : ℕ) (new : List (ℕ × X))
        → place_of (lookup (eq (key x)) places) ≡ Some n → new ≡ set_in n x (now x) old
        → IsLineup eq key same now (named ++ x ∷ []) places count new
    lineup_again n new e f =
        let re = lineup_renewed n new e f in
        let d = sym (once_old named x (sym (there (Some n) e))) in
        record {
          counted = re.counted ∙ ap length d;
          placed = λ q. re.placed q ∙ ap (position_from (λ y. eq q (key y)) 0) d;
          waits = re.waits ∙ ap (passing now) d;
        }

    -- it is named for the first time
    pub lineup_first : (with : List (K × ℕ)) (more : ℕ) (new : List (ℕ × X))
        → place_of (lookup (eq (key x)) places) ≡ None → more ≡ count + 1
        → ((q : K) → lookup (eq q) with
        ≡ (if eq (key x) q then Some more else lookup (eq q) places))
        → new ≡ set_in count x (now x) old
        → IsLineup eq key same now (named ++ x ∷ []) with more new
    lineup_first with more new e m puts f = record {
      counted =
          m ∙ (ap (λ n. n + 1) is.counted ∙ (sym (length-append (once named) (x ∷ [])) ∙ ap length (sym d)));
      placed = λ q. ap place_of (puts q)
          ∙ (by q (eq (key x) q) refl ∙ ap (position_from (λ y. eq q (key y)) 0) (sym d));
      waits =
          f
          ∙ (ap (set_in count x (now x)) (is.waits ∙ sym at_end)
          ∙ (set_from same laws.is same_self (but same was x) now x agree' 0 (once named ++ x ∷ []) count
          (ap (distinct same laws.is same_self) (sym d)
          ∙ once_distinct same laws.is same_self (named ++ x ∷ []))
          place
          ∙ ap (passing now) (sym d)));
    }
      where
        absent : list_any (same x) (once named) ≡ false
        absent = sym (there None e)

        d : once (named ++ x ∷ []) ≡ once named ++ x ∷ []
        d = once_new named x absent

        agree' : (y : X) → same x y ≡ false → but same was x y ≡ now y
        agree' y k = rw k (and_true (was y)) ∙ agree y k
          where
            and_true : (b : Bool) → (b && not false) ≡ b
            and_true true = refl
            and_true false = refl

        nowhere : position_from (same x) 0 (once named) ≡ None
        nowhere = sym (found_by x 0 (once named)) ∙ (sym (is.placed (key x)) ∙ e)

        place : position_from (same x) 0 (once named ++ x ∷ []) ≡ Some count
        place =
            place_more (same x) 0 (once named) x
            ∙ (ap (λ (o : Option ℕ). option_or o (if same x x then Some (0 + length (once named)) else None)) nowhere
            ∙ (ap (λ b. if b then Some (0 + length (once named)) else None) (same_self x)
            ∙ ap (λ n. Some n) whole))
          where
            whole : 0 + length (once named) ≡ count
            whole = let c = is.counted in omega (arith, c)

        at_end : from (but same was x) 0 (once named ++ x ∷ []) ≡ from was 0 (once named)
        at_end =
            from_append (but same was x) 0 (once named) (x ∷ [])
            ∙ (ap
            (λ b. from (but same was x) 0 (once named) ++ cond (was x && not b) ((0 + length (once named), x) ∷ []) [])
            (same_self x)
            ∙ (ap
            (λ b. from (but same was x) 0 (once named) ++ cond b ((0 + length (once named), x) ∷ []) [])
            (and_false (was x))
            ∙ (append_nil (from (but same was x) 0 (once named))
            ∙ sym (from_agree same laws.is same_self was (but same was x) x (λ y k. sym (agree'' y k)) 0 (once named) absent))))
          where
            and_false : (b : Bool) → (b && not true) ≡ false
            and_false true = refl
            and_false false = refl

            agree'' : (y : X) → same x y ≡ false → but same was x y ≡ was y
            agree'' y k = rw k (and_true (was y))
              where
                and_true : (b : Bool) → (b && not false) ≡ b
                and_true true = refl
                and_true false = refl

        next : more ≡ suc count
        next = omega (arith, m)

        by : (q : K) (b : Bool) → eq (key x) q ≡ b
            → place_of (if b then Some more else lookup (eq q) places)
            ≡ position_from (λ y. eq q (key y)) 0 (once named ++ x ∷ [])
        by q true k =
            ap (λ n. place_of (Some n)) next
            ∙ (ap (λ n. place_of (Some (suc n))) is.counted
            ∙ sym
            (subst (λ r. position_from (λ y. eq r (key y)) 0 (once named ++ x ∷ []) ≡ Some (length (once named))) (laws.one (key x) q k)
            (found_by x 0 (once named ++ x ∷ []) ∙ (place ∙ ap (λ n. Some n) is.counted))))
        by q false k =
            is.placed q
            ∙ sym
            (place_more (λ y. eq q (key y)) 0 (once named) x
            ∙ (ap
            (λ b. option_or (position_from (λ y. eq q (key y)) 0 (once named))
            (if b then Some (0 + length (once named)) else None))
            (other (eq q (key x)) refl)
            ∙ or_none (position_from (λ y. eq q (key y)) 0 (once named))))
          where
            or_none : {Y : Type 0} (o : Option Y) → option_or o None ≡ o
            or_none None = refl
            or_none (Some y) = refl

            other : (b : Bool) → eq q (key x) ≡ b → b ≡ false
            other false l = refl
            other true l =
                let s : eq (key x) q ≡ true =
                subst (λ r. eq (key x) r ≡ true) (sym (laws.one q (key x) l)) (laws.self (key x)) in
                let t : true ≡ false = sym s ∙ k in
                cc

-- ---- numbers for places

pub place_at_one_less : (n : ℕ) → 0 < n → place_below n ≡ Some (n - 1)
place_at_one_less zero h = absurd (omega (arith, h))
place_at_one_less (suc n) h = ap (λ m. Some m) (omega arith)

pub no_place : (n : ℕ) → n ≡ 0 → place_below n ≡ None
no_place zero e = refl
no_place (suc n) e = absurd (omega (arith, e))

-- no more pass than there are
pub fewer : {X : Type 0} (p : X → Bool) (xs : List X) (n len : ℕ) → n ≡ length (filter p xs)
    → length xs ≡ len → n ≤ len
fewer p xs n len f g = let l = go xs in omega (arith, l, f, g)
  where
    go : (zs : List _) → length (filter p zs) ≤ length zs
    go [] = omega arith
    go (z ∷ zs) = by (p z) (go zs)
      where
        by : (b : Bool) → length (filter p zs) ≤ length zs
            → length (cond b (z ∷ filter p zs) (filter p zs)) ≤ length (z ∷ zs)
        by true l = omega (arith, l)
        by false l = omega (arith, l)

-- ---- keys of votes

pub key_there : (es : List (VoteKey × ℕ)) (k : VoteKey) → is_some (lookup (same_key k) es) ≡ true
    → is_some (lookup (λ (j : VoteKey). is_eq (key_cmp k j)) es) ≡ true
key_there es k h = ap (λ (o : Option ℕ). is_some o) (found_key es k) ∙ h

-- a key that is put where there was none is there
pub put_is_there : (old new : List (VoteKey × ℕ)) (k : VoteKey) (n : ℕ) → PutFirst old new k n
    → is_some (lookup (same_key k) new) ≡ true
put_is_there old new k n puts =
    ap (λ (o : Option ℕ). is_some o) (first_put old new k n puts k)
    ∙ (ap (λ b. is_some (option_or (lookup (same_key k) old) (if b then Some n else None)))
    (same_key_self k)
    ∙ go (lookup (same_key k) old))
  where
    go : (o : Option ℕ) → is_some (option_or o (Some n)) ≡ true
    go None = refl
    go (Some m) = refl

-- a number is put at a key
pub key_put : (old new : List (VoteKey × ℕ)) (k : VoteKey) (n : ℕ)
    → ((q : VoteKey) → lookup (λ (j : VoteKey). is_eq (key_cmp q j)) new
    ≡ (if is_eq (key_cmp k q) then Some n else lookup (λ (j : VoteKey). is_eq (key_cmp q j)) old))
    → (q : VoteKey)
    → lookup (same_key q) new ≡ (if same_key k q then Some n else lookup (same_key q) old)
key_put old new k n sets q =
    sym (found_key new q)
    ∙ (sets q
    ∙ (ap (λ b. if b then Some n else lookup (λ (j : VoteKey). is_eq (key_cmp q j)) old)
    (sym (keys_tie k q))
    ∙ ap (λ (o : Option ℕ). if same_key k q then Some n else o) (found_key old q)))

-- ---- votes and proposals have keys

pub votes_keyed : IsKeyed same_key key_of same_vote
votes_keyed = record {
  tie = λ v w. sym (keys_of_same v w);
  is = same_vote-true;
  one = same_key-true;
  self = same_key_self;
}

pub proposals_keyed : IsKeyed same_key (keyed 3) same_proposal
unfolding same_proposal
proposals_keyed = record {
  tie = λ p q. refl;
  is = same_proposal-true;
  one = same_key-true;
  self = same_key_self;
}
