-- Lists of which each element is kept once, and those that are done are left out.
use Rattle.std.proofs.Common.{◌≡◌, ◌&&◌, ◌+◌, ◌||◌, ℕ, Bool, true, false, cond, not, List, [], ◌∷◌, ◌++◌, length, map, take, filter, Option, Some, None, refl, sym, ◌∙◌, ap, arith, append_assoc}
use Rattle.std.specs.List.{enumerate_from, find, list_any}
use Rattle.std.specs.Option.{option_or}
use Rattle.std.proofs.lemmas.List.{length-append}
use Rattle.std.proofs.lemmas.List.Elements.{filter-append}
use Rattle.std.proofs.lemmas.List.Folds.{find-append, list_any-append}
use Rattle.std.proofs.Math.Seq.{take-append_seam}
use Rattle.voter.specs.Lineup.{without_repeats}
use Rattle.voter.specs.Waiting.{undone}

pub append_nil : {X : Type 0} (ys : List X) → ys ++ [] ≡ ys
append_nil [] = refl
append_nil (y ∷ ys) = ap (λ zs. y ∷ zs) (append_nil ys)

-- ---- filters

module _ {X : Type 0} where
  -- one filter behind another
  pub filter_twice : (p q : X → Bool) (xs : List X)
      → filter p (filter q xs) ≡ filter (λ x. q x && p x) xs
  filter_twice p q [] = refl
  filter_twice p q (x ∷ xs) = go (q x) refl (filter_twice p q xs)
    where
      go : (b : Bool) → q x ≡ b → filter p (filter q xs) ≡ filter (λ x. q x && p x) xs
          → filter p (filter q (x ∷ xs)) ≡ filter (λ x. q x && p x) (x ∷ xs)
      go true e more = rw e (ap (λ ys. cond (p x) (x ∷ ys) ys) more)
      go false e more = rw e more

  -- tests that say the same
  pub filter_same_test : (p q : X → Bool) → ((x : X) → p x ≡ q x) → (xs : List X)
      → filter p xs ≡ filter q xs
  filter_same_test p q e [] = refl
  filter_same_test p q e (x ∷ xs) =
      ap (λ b. cond b (x ∷ filter p xs) (filter p xs)) (e x)
      ∙ ap (λ ys. cond (q x) (x ∷ ys) ys) (filter_same_test p q e xs)

  -- a filter that lets all through that the next one does
  pub filter_through : (p q : X → Bool) → ((x : X) → p x ≡ true → q x ≡ true) → (xs : List X)
      → filter p (filter q xs) ≡ filter p xs
  filter_through p q h xs = filter_twice p q xs ∙ filter_same_test (λ x. q x && p x) p same xs
    where
      by : (a b : Bool) → (b ≡ true → a ≡ true) → (a && b) ≡ b
      by true b k = refl
      by false false k = refl
      by false true k = k refl

      same : (x : X) → (q x && p x) ≡ p x
      same x = by (q x) (p x) (h x)

  -- what is found is let through
  pub find_through : (p q : X → Bool) → ((x : X) → p x ≡ true → q x ≡ true) → (xs : List X)
      → find p (filter q xs) ≡ find p xs
  find_through p q h [] = refl
  find_through p q h (x ∷ xs) = go (q x) (p x) refl refl (h x) (find_through p q h xs)
    where
      go : (a b : Bool) → q x ≡ a → p x ≡ b → (p x ≡ true → q x ≡ true)
          → find p (filter q xs) ≡ find p xs → find p (filter q (x ∷ xs)) ≡ find p (x ∷ xs)
      go true b e f k more = rw e (ap (λ o. cond (p x) (Some x) o) more)
      go false false e f k more = rw (e, f) more
      go false true e f k more = let t : false ≡ true = sym e ∙ k f in cc

  -- of what is let through nothing passes
  nothing_through : (p q : X → Bool) → ((x : X) → p x ≡ true → q x ≡ false) → (xs : List X)
      → filter p (filter q xs) ≡ []
  nothing_through p q h [] = refl
  nothing_through p q h (x ∷ xs) = go (q x) (p x) refl refl (nothing_through p q h xs)
    where
      go : (a b : Bool) → q x ≡ a → p x ≡ b → filter p (filter q xs) ≡ []
          → filter p (cond a (x ∷ filter q xs) (filter q xs)) ≡ []
      go false b e f more = more
      go true false e f more = rw f more
      go true true e f more = let t : true ≡ false = sym e ∙ h x f in cc

  none_through : (p q : X → Bool) → ((x : X) → p x ≡ true → q x ≡ false) → (xs : List X)
      → find p (filter q xs) ≡ None
  none_through p q h [] = refl
  none_through p q h (x ∷ xs) = go (q x) (p x) refl refl (none_through p q h xs)
    where
      go : (a b : Bool) → q x ≡ a → p x ≡ b → find p (filter q xs) ≡ None
          → find p (cond a (x ∷ filter q xs) (filter q xs)) ≡ None
      go false b e f more = more
      go true false e f more = rw f more
      go true true e f more = let t : true ≡ false = sym e ∙ h x f in cc

  or_none : (o : Option X) → option_or o None ≡ o
  or_none None = refl
  or_none (Some x) = refl

  -- whether there is one, by the first
  pub any_found : (p : X → Bool) (xs ys : List X) → find p xs ≡ find p ys
      → list_any p xs ≡ list_any p ys
  any_found p xs ys e = is xs ∙ (ap there e ∙ sym (is ys))
    where
      there : Option X → Bool
      there None = false
      there (Some x) = true

      is : (zs : List X) → list_any p zs ≡ there (find p zs)
      is [] = refl
      is (z ∷ zs) = go (p z) (is zs)
        where
          go : (b : Bool) → list_any p zs ≡ there (find p zs)
              → (b || list_any p zs) ≡ there (cond b (Some z) (find p zs))
          go true more = refl
          go false more = more

module _ {X : Type 0} (same : X → X → Bool) (is : (a b : X) → same a b ≡ true → a ≡ b) where
  -- ---- each once

  -- what is found is found where it first stands
  pub find_once : (p : X → Bool) (xs : List X) → find p (without_repeats same xs) ≡ find p xs
  find_once p [] = refl
  find_once p (x ∷ xs) = go (p x) refl (find_once p xs)
    where
      by : p x ≡ false → find p (without_repeats same xs) ≡ find p xs
          → find p (filter (λ y. not (same y x)) (without_repeats same xs)) ≡ find p xs
      by e more =
          find_through p (λ y. not (same y x)) (λ y h. other (same y x) refl h)
          (without_repeats same xs)
          ∙ more
        where
          other : {y : X} (b : Bool) → same y x ≡ b → p y ≡ true → not (same y x) ≡ true
          other false k h = ap not k
          other {y = y} true k h = let t : true ≡ false = sym h ∙ (ap p (is y x k) ∙ e) in cc

      go : (b : Bool) → p x ≡ b → find p (without_repeats same xs) ≡ find p xs
          → find p (without_repeats same (x ∷ xs)) ≡ find p (x ∷ xs)
      go true e more = rw e refl
      go false e more = rw e (by e more)

  -- of two lists behind one another
  pub once_append : (xs ys : List X)
      → without_repeats same (xs ++ ys)
      ≡ without_repeats same xs
      ++ filter (λ y. not (list_any (same y) xs)) (without_repeats same ys)
  once_append [] ys = sym (all (without_repeats same ys))
    where
      all : (zs : List X) → filter (λ y. true) zs ≡ zs
      all [] = refl
      all (z ∷ zs) = ap (λ ws. z ∷ ws) (all zs)
  once_append (x ∷ xs) ys =
      ap (λ zs. x ∷ filter (λ y. not (same y x)) zs) (once_append xs ys)
      ∙ (ap (λ zs. x ∷ zs)
      (filter-append (λ y. not (same y x)) (without_repeats same xs)
      (filter (λ y. not (list_any (same y) xs)) (without_repeats same ys)))
      ∙ ap (λ zs. x ∷ (filter (λ y. not (same y x)) (without_repeats same xs) ++ zs))
      (filter_twice (λ y. not (same y x)) (λ y. not (list_any (same y) xs))
      (without_repeats same ys)
      ∙ filter_same_test (λ y. not (list_any (same y) xs) && not (same y x))
      (λ y. not (list_any (same y) (x ∷ xs)))
      (λ y. neither (list_any (same y) xs) (same y x)) (without_repeats same ys)))
    where
      neither : (a b : Bool) → (not a && not b) ≡ not (b || a)
      neither true true = refl
      neither true false = refl
      neither false true = refl
      neither false false = refl

  -- the elements that pass and aren't named before are those that pass, each once
  module _ (passes : X → Bool) (all : List X) where
    abbrev candidate : ℕ × X → Bool
    candidate at = passes at.1 && not (list_any (same at.1) (take at.0 all))

    behind : (n : ℕ) (pre ys : List X) → n ≡ length pre → pre ++ ys ≡ all
        → map (λ (at : ℕ × X). at.1) (filter candidate (enumerate_from n ys))
        ≡ filter (λ y. passes y && not (list_any (same y) pre)) (without_repeats same ys)
    behind n pre [] e f = refl
    behind n pre (y ∷ ys) e f =
        go (passes y && not (list_any (same y) pre)) refl
        (more (λ l. behind (n + 1) (pre ++ y ∷ []) ys l (append_assoc pre (y ∷ []) ys ∙ f)))
      where
        before : take n all ≡ pre
        before =
            ap (take n) (sym f)
            ∙ (ap (λ k. take k (pre ++ y ∷ ys)) e ∙ take-append_seam pre (y ∷ ys))

        longer : n + 1 ≡ length (pre ++ y ∷ [])
        longer = let l = length-append pre (y ∷ []) in omega (arith, e, l)

        here : candidate (n, y) ≡ (passes y && not (list_any (same y) pre))
        here = ap (λ zs. passes y && not (list_any (same y) zs)) before

        test : (p a b : Bool) → (not b && (p && not a)) ≡ (p && not (a || b))
        test true true true = refl
        test true true false = refl
        test true false true = refl
        test true false false = refl
        test false true true = refl
        test false true false = refl
        test false false true = refl
        test false false false = refl

        or_false : (b : Bool) → (b || false) ≡ b
        or_false true = refl
        or_false false = refl

        more : (n + 1 ≡ length (pre ++ y ∷ [])
            → map (λ (at : ℕ × X). at.1) (filter candidate (enumerate_from (n + 1) ys))
            ≡ filter (λ z. passes z && not (list_any (same z) (pre ++ y ∷ [])))
            (without_repeats same ys))
            → map (λ (at : ℕ × X). at.1) (filter candidate (enumerate_from (n + 1) ys))
            ≡ filter (λ z. passes z && not (list_any (same z) pre))
            (filter (λ z. not (same z y)) (without_repeats same ys))
        more rest =
            rest longer
            ∙ sym
            (filter_twice (λ z. passes z && not (list_any (same z) pre))
            (λ z. not (same z y)) (without_repeats same ys)
            ∙ filter_same_test
            (λ z. not (same z y) && (passes z && not (list_any (same z) pre)))
            (λ z. passes z && not (list_any (same z) (pre ++ y ∷ [])))
            (λ z. test (passes z) (list_any (same z) pre) (same z y)
            ∙ ap (λ b. passes z && not b)
            (sym
            (list_any-append (same z) pre (y ∷ [])
            ∙ ap (λ b. list_any (same z) pre || b) (or_false (same z y)))))
            (without_repeats same ys))

        go : (b : Bool) → (passes y && not (list_any (same y) pre)) ≡ b
            → map (λ (at : ℕ × X). at.1) (filter candidate (enumerate_from (n + 1) ys))
            ≡ filter (λ z. passes z && not (list_any (same z) pre))
            (filter (λ z. not (same z y)) (without_repeats same ys))
            → map (λ (at : ℕ × X). at.1) (filter candidate (enumerate_from n (y ∷ ys)))
            ≡ filter (λ y. passes y && not (list_any (same y) pre)) (without_repeats same (y ∷ ys))
        go true e rest = rw (here, e) (ap (λ zs. y ∷ zs) rest)
        go false e rest = rw (here, e) rest

    pub candidates_once : map (λ (at : ℕ × X). at.1) (filter candidate (enumerate_from 0 all))
        ≡ filter passes (without_repeats same all)
    candidates_once =
        behind 0 [] all refl refl
        ∙ filter_same_test (λ y. passes y && true) passes (λ y. and_true (passes y))
        (without_repeats same all)
      where
        and_true : (b : Bool) → (b && true) ≡ b
        and_true true = refl
        and_true false = refl

  -- ---- those that aren't done

  -- what isn't done is found
  pub find_undone : (p done : X → Bool) → ((x : X) → p x ≡ true → done x ≡ false) → (xs : List X)
      → find p (undone same done xs) ≡ find p xs
  find_undone p done h xs =
      find_through p (λ x. not (done x)) (λ x k. ap not (h x k)) (without_repeats same xs)
      ∙ find_once p xs

  -- whether one that isn't done is there
  pub any_undone : (done : X → Bool) (x : X) → done x ≡ false → (xs : List X)
      → list_any (same x) (undone same done xs) ≡ list_any (same x) xs
  any_undone done x h xs =
      any_found (same x) (undone same done xs) xs
      (find_undone (same x) done (λ y k. ap done (sym (is x y k)) ∙ h) xs)

  -- ---- two lists behind one another

  module _ (done : X → Bool) (ws us xs ys : List X) (e : ws ≡ undone same done xs)
      (f : us ≡ undone same done ys) where
    -- what is found first
    pub find_two : (p : X → Bool) → ((x : X) → p x ≡ true → done x ≡ false)
        → find p (ws ++ us) ≡ find p (xs ++ ys)
    find_two p h =
        find-append p ws us
        ∙ (ap (λ o. option_or o (find p us)) (ap (find p) e ∙ find_undone p done h xs)
        ∙ (ap (option_or (find p xs)) (ap (find p) f ∙ find_undone p done h ys)
        ∙ sym (find-append p xs ys)))

    -- those that pass and aren't named before
    pub pick_two : (u : X → Bool) → ((x : X) → u x ≡ true → done x ≡ false)
        → filter u (ws ++ filter (λ y. not (list_any (same y) ws)) us)
        ≡ map (λ (at : ℕ × X). at.1)
        (filter (λ at. u at.1 && not (list_any (same at.1) (take at.0 (xs ++ ys))))
        (enumerate_from 0 (xs ++ ys)))
    pick_two u h =
        filter-append u ws (filter (λ y. not (list_any (same y) ws)) us)
        ∙ (ap (λ l. l ++ filter u (filter (λ y. not (list_any (same y) ws)) us)) first
        ∙ (ap (λ l. filter u (without_repeats same xs) ++ l) second
        ∙ sym
        (candidates_once u (xs ++ ys)
        ∙ (ap (filter u) (once_append xs ys)
        ∙ filter-append u (without_repeats same xs)
        (filter (λ y. not (list_any (same y) xs)) (without_repeats same ys))))))
      where
        left : (x : X) → u x ≡ true → not (done x) ≡ true
        left x k = ap not (h x k)

        first : filter u ws ≡ filter u (without_repeats same xs)
        first =
            ap (filter u) e
            ∙ filter_through u (λ x. not (done x)) left (without_repeats same xs)

        test : (y : X)
            → (not (list_any (same y) ws) && u y) ≡ (not (list_any (same y) xs) && u y)
        test y = by (u y) refl
          where
            none : (a b : Bool) → (a && false) ≡ (b && false)
            none true true = refl
            none true false = refl
            none false true = refl
            none false false = refl

            by : (b : Bool) → u y ≡ b
                → (not (list_any (same y) ws) && b) ≡ (not (list_any (same y) xs) && b)
            by true k =
                ap (λ a. not a && true)
                (ap (list_any (same y)) e ∙ any_undone done y (h y k) xs)
            by false k = none (not (list_any (same y) ws)) (not (list_any (same y) xs))

        also : (y : X) → (not (list_any (same y) xs) && u y) ≡ true → not (done y) ≡ true
        also y k = left y (by (not (list_any (same y) xs)) (u y) k)
          where
            by : (a b : Bool) → (a && b) ≡ true → b ≡ true
            by true b k = k
            by false b k = cc

        second : filter u (filter (λ y. not (list_any (same y) ws)) us)
            ≡ filter u (filter (λ y. not (list_any (same y) xs)) (without_repeats same ys))
        second =
            filter_twice u (λ y. not (list_any (same y) ws)) us
            ∙ (filter_same_test (λ y. not (list_any (same y) ws) && u y)
            (λ y. not (list_any (same y) xs) && u y) test us
            ∙ (ap (filter (λ y. not (list_any (same y) xs) && u y)) f
            ∙ (filter_through (λ y. not (list_any (same y) xs) && u y) (λ y. not (done y)) also
            (without_repeats same ys)
            ∙ sym (filter_twice u (λ y. not (list_any (same y) xs)) (without_repeats same ys)))))

  -- ---- where all that pass are named in the first list

  module _ (p : X → Bool) (xs ys : List X)
      (there : (y : X) → p y ≡ true → list_any (same y) xs ≡ true) where
    abbrev later : List X
    later = filter (λ y. not (list_any (same y) xs)) (without_repeats same ys)

    apart : (y : X) → p y ≡ true → not (list_any (same y) xs) ≡ false
    apart y h = ap not (there y h)

    -- what is found
    pub find_named : find p (without_repeats same xs) ≡ find p (xs ++ ys)
    find_named =
        sym
        (sym (find_once p (xs ++ ys))
        ∙ (ap (find p) (once_append xs ys)
        ∙ (find-append p (without_repeats same xs) later
        ∙ (ap (option_or (find p (without_repeats same xs)))
        (none_through p (λ y. not (list_any (same y) xs)) apart (without_repeats same ys))
        ∙ or_none (find p (without_repeats same xs))))))

    -- those that pass
    pub pick_named : filter p (without_repeats same xs)
        ≡ map (λ (at : ℕ × X). at.1)
        (filter (λ at. p at.1 && not (list_any (same at.1) (take at.0 (xs ++ ys))))
        (enumerate_from 0 (xs ++ ys)))
    pick_named =
        sym
        (candidates_once p (xs ++ ys)
        ∙ (ap (filter p) (once_append xs ys)
        ∙ (filter-append p (without_repeats same xs) later
        ∙ (ap (λ l. filter p (without_repeats same xs) ++ l)
        (nothing_through p (λ y. not (list_any (same y) xs)) apart (without_repeats same ys))
        ∙ append_nil (filter p (without_repeats same xs))))))
