-- Two lists that rise and have the same members are one.
use Rattle.std.proofs.Common.{◌≡◌, ℕ, ◌+◌, ◌<◌, ◌≤◌, ◌==◌, ◌||◌, ◌⊎◌, inl, inr, Bool, true, false, nat_le, nat_lt, refl, sym, ◌∙◌, ap, arith, eq-eqb, eqb-true, ltb-true, ltb-false, List, [], ◌∷◌}
use Rattle.std.specs.Cmp.{unsigned_ties}
use Rattle.std.specs.List.{AllByRecursion, list_any}
use Rattle.std.specs.List.Sorted.{IsStrictlySortedBy}
use Rattle.std.specs.Ordering.{is_eq, nat_cmp}
use Rattle.std.specs.declared.cmp.Ordering.TheVariants.{Less}
use Rattle.std.proofs.lemmas.Bool.{and_from, and_parts, cases_Bool, false≢true, le-leb, leb-true}
use Rattle.std.proofs.lemmas.Cmp.{nat_eq_equiv, ranked}
use Rattle.cw_types.specs.Epochs.{rises_from}

-- the number is among them
abbrev pub is_among : ℕ → List ℕ → Bool
is_among i xs = list_any (λ j. j == i) xs

-- what is lower than all isn't among them
low_out : (low i : ℕ) (xs : List ℕ) → rises_from low xs ≡ true → i < low → is_among i xs ≡ false
low_out low i [] rise under = refl
low_out low i (x ∷ xs) rise under =
    let p = and_parts (nat_le low x) (rises_from (x + 1) xs) rise in
    let le = leb-true low x p.0 in
    go (cases_Bool (x == i)) (low_out (x + 1) i xs p.1 (omega (arith, le, under)))
  where
    go : ((x == i) ≡ true) ⊎ ((x == i) ≡ false) → is_among i xs ≡ false
        → is_among i (x ∷ xs) ≡ false
    go (inl e) more =
        let p = and_parts (nat_le low x) (rises_from (x + 1) xs) rise in
        let le = leb-true low x p.0 in
        let same = eqb-true x i e in
        absurd (omega (arith, le, same, under))
    go (inr e) more = rw e more

pub self_in : (x : ℕ) (xs : List ℕ) → is_among x (x ∷ xs) ≡ true
self_in x xs = ap (λ b. b || is_among x xs) (eq-eqb x x refl)

pub same_rising : (low : ℕ) (xs ys : List ℕ) → rises_from low xs ≡ true
    → rises_from low ys ≡ true → ((i : ℕ) → is_among i xs ≡ is_among i ys) → xs ≡ ys
same_rising low [] [] r s same = refl
same_rising low [] (y ∷ ys) r s same = absurd (false≢true (same y ∙ self_in y ys))
same_rising low (x ∷ xs) [] r s same = absurd (false≢true (sym (same x) ∙ self_in x xs))
same_rising low (x ∷ xs) (y ∷ ys) r s same =
    let p = and_parts (nat_le low x) (rises_from (x + 1) xs) r in
    let q = and_parts (nat_le low y) (rises_from (y + 1) ys) s in
    heads (same_rising (x + 1) xs) p.1 q.1 (cases_Bool (nat_lt x y)) (cases_Bool (nat_lt y x))
  where
    heads : ((zs : List ℕ) → rises_from (x + 1) xs ≡ true → rises_from (x + 1) zs ≡ true
        → ((i : ℕ) → is_among i xs ≡ is_among i zs) → xs ≡ zs)
        → rises_from (x + 1) xs ≡ true → rises_from (y + 1) ys ≡ true
        → ((nat_lt x y) ≡ true) ⊎ ((nat_lt x y) ≡ false)
        → ((nat_lt y x) ≡ true) ⊎ ((nat_lt y x) ≡ false) → (x ∷ xs) ≡ (y ∷ ys)
    heads tails a b (inl lt) other =
        let under = ltb-true x y lt in
        absurd
        (false≢true
        (sym
        (low_out y x (y ∷ ys) (and_from (nat_le y y) (rises_from (y + 1) ys) (le-leb y y (omega arith)) b)
        under)
        ∙ (sym (same x) ∙ self_in x xs)))
    heads tails a b (inr ge) (inl lt) =
        let under = ltb-true y x lt in
        absurd
        (false≢true
        (sym
        (low_out x y (x ∷ xs) (and_from (nat_le x x) (rises_from (x + 1) xs) (le-leb x x (omega arith)) a)
        under)
        ∙ (same y ∙ self_in y ys)))
    heads tails a b (inr ge) (inr le) =
        let e : x ≡ y = omega (arith, ltb-false x y ge, ltb-false y x le) in
        λ i. e i ∷ tails ys a (ap (λ z. rises_from (z + 1) ys) e ∙ b) (rest e a b) i
      where
        rest : x ≡ y → rises_from (x + 1) xs ≡ true → rises_from (y + 1) ys ≡ true → (i : ℕ)
            → is_among i xs ≡ is_among i ys
        rest e a b i = at (cases_Bool (x == i)) (same i)
          where
            at : ((x == i) ≡ true) ⊎ ((x == i) ≡ false)
                → is_among i (x ∷ xs) ≡ is_among i (y ∷ ys) → is_among i xs ≡ is_among i ys
            at (inl f) h =
                let here = eqb-true x i f in
                low_out (x + 1) i xs a (omega (arith, here))
                ∙ sym (low_out (y + 1) i ys b (omega (arith, here, e)))
            at (inr f) h =
                sym (ap (λ c. c || is_among i xs) f)
                ∙ (h ∙ ap (λ c. c || is_among i ys) (ap (λ z. z == i) (sym e) ∙ f))

-- what is sorted strictly rises
pub sorted_rises : (low : ℕ) (xs : List ℕ) → AllByRecursion (λ y. low ≤ y) xs
    → IsStrictlySortedBy nat_cmp xs → rises_from low xs ≡ true
unfolding IsStrictlySortedBy
sorted_rises low [] a s = refl
sorted_rises low (x ∷ xs) a s =
    and_from (nat_le low x) (rises_from (x + 1) xs) (le-leb low x a.0)
    (sorted_rises (x + 1) xs (above xs s.0) s.1)
  where
    above : (ys : List ℕ) → AllByRecursion (λ y. nat_cmp x y ≡ Less) ys
        → AllByRecursion (λ y. x + 1 ≤ y) ys
    above [] h = tt
    above (y ∷ ys) h = (let less : x < y = ranked x y Less (sym h.0) in omega (arith, less), above ys h.1)

pub all_high : (xs : List ℕ) → AllByRecursion (λ y. 0 ≤ y) xs
all_high [] = tt
all_high (x ∷ xs) = (omega arith, all_high xs)

-- a set's test, and the list's
pub among_keys : (xs : List ℕ) (i : ℕ)
    → list_any (λ k. is_eq (nat_cmp i k)) xs ≡ is_among i xs
among_keys [] i = refl
among_keys (x ∷ xs) i =
    ap (λ b. b || list_any (λ k. is_eq (nat_cmp i k)) xs)
    (sym (unsigned_ties i x) ∙ nat_eq_equiv.symm i x)
    ∙ ap (λ b. (x == i) || b) (among_keys xs i)
