-- What the links of a chain leave in a replica.
use Rattle.std.proofs.Common.{◌≡◌, ◌⊎◌, inl, inr, ℕ, zero, suc, ◌+◌, ◌≤◌, ◌==◌, Bool, true, false, cond, List, [], ◌∷◌, ◌++◌, length, map, take, fold, slice_get, Some, refl, sym, ◌∙◌, ap, subst, arith, add-one}
use Rattle.std.specs.Option.{option_map_or}
use Rattle.std.proofs.lemmas.Bool.{cases_eq, eqb-true}
use Rattle.std.proofs.lemmas.Option.{same_Some, slice_get_within}
use Rattle.cw_types.specs.Block.{Block}
use Rattle.cw_rules.specs.Reached.{In}
use Rattle.cw_ledger.specs.Ledger.{applied}
use Rattle.run_ledger.specs.Giving.{given_all, given_one}
use Rattle.run_ledger.proofs.Orders.{after_one, reached_by}

-- ---- each link of a chain is of its height

-- ---- lists

taken_more : (chain : List Block) (n : ℕ) (b : Block) → slice_get chain n ≡ Some b
    → map (λ x. x.payload) (take (n + 1) chain)
    ≡ map (λ x. x.payload) (take n chain) ++ b.payload ∷ []
taken_more chain n b at = rw (add-one n) (go chain n at)
  where
    go : (xs : List Block) (i : ℕ) → slice_get xs i ≡ Some b
        → map (λ (x : Block). x.payload) (take (suc i) xs)
        ≡ map (λ (x : Block). x.payload) (take i xs) ++ b.payload ∷ []
    go [] i e = cc
    go (x ∷ xs) zero e = ap (λ (y : Block). y.payload ∷ []) (same_Some x b e)
    go (x ∷ xs) (suc i) e = ap (λ l. x.payload ∷ l) (go xs i e)

length_taken : (chain : List Block) (n : ℕ) → n ≤ length chain
    → length (map (λ x. x.payload) (take n chain)) ≡ n
length_taken chain zero le = refl
length_taken [] (suc n) le = absurd (omega arith)
length_taken (x ∷ xs) (suc n) le = ap suc (length_taken xs n (omega arith))

-- ---- what is given

-- each link is of its height
abbrev pub HasHeights : List Block → Type 0
HasHeights chain = (i : ℕ) (b : Block) → slice_get chain i ≡ Some b → b.height ≡ i

-- each of these heights has a link
abbrev pub HasLinks : List Block → List ℕ → Type 0
HasLinks chain heights = (h : ℕ) → In h heights → (b : Block) × (slice_get chain h ≡ Some b)

module _ (chain : List Block) (heights_are : HasHeights chain) where
  abbrev first : ℕ → List (List ℕ)
  first n = map (λ x. x.payload) (take n chain)

  one : (n h : ℕ) (b : Block) → n ≤ length chain → slice_get chain h ≡ Some b
      → (given_one chain (first n) h ≡ first (after_one n h)) × (after_one n h ≤ length chain)
  one n h b le at = go (cases_eq h n)
    where
      len : length (first n) ≡ n
      len = length_taken chain n le

      opened : given_one chain (first n) h
          ≡ cond (b.height == length (first n)) (first n ++ b.payload ∷ []) (first n)
      opened = ap (λ o. option_map_or (applied (first n)) o (first n)) at

      test : (b.height == length (first n)) ≡ (h == n)
      test = rw (heights_are h b at, len) refl

      go : (h ≡ n) ⊎ (h ≡ n → ⊥)
          → (given_one chain (first n) h ≡ first (after_one n h)) × (after_one n h ≤ length chain)
      go (inl same) =
          let is_it : (h == n) ≡ true = rw same (grind arith) in
          let there : slice_get chain n ≡ Some b =
          subst (λ k. slice_get chain k ≡ Some b) same at in
          let now : after_one n h ≡ n + 1 = ap (λ t. cond t (n + 1) n) is_it in (
            opened ∙ ap (λ t. cond t (first n ++ b.payload ∷ []) (first n)) (test ∙ is_it)
                ∙ sym (taken_more chain n b there) ∙ ap first (sym now),
            omega (arith, now, slice_get_within chain n b there),
          )
      go (inr other) =
          let not_it : (h == n) ≡ false = not_same (h == n) refl in
          let now : after_one n h ≡ n = ap (λ t. cond t (n + 1) n) not_it in (
            opened ∙ ap (λ t. cond t (first n ++ b.payload ∷ []) (first n)) (test ∙ not_it)
                ∙ ap first (sym now),
            omega (arith, now),
          )
        where
          not_same : (t : Bool) → (h == n) ≡ t → t ≡ false
          not_same true e = absurd (other (eqb-true h n e))
          not_same false e = refl

  all : (n : ℕ) (heights : List ℕ) → n ≤ length chain → HasLinks chain heights
      → (given_all chain (first n) heights ≡ first (fold after_one n heights))
      × (fold after_one n heights ≤ length chain)
  all n [] le there = (refl, le)
  all n (h ∷ hs) le there =
      let (b, at) = there h (inl refl) in
      let here = one n h b le at in
      let rest = all (after_one n h) hs here.1 (λ k i. there k (inr i)) in
      (ap (λ ps. given_all chain ps hs) here.0 ∙ rest.0, rest.1)

  -- the links of the heights below the first that is missing
  pub given_are : (heights : List ℕ) → HasLinks chain heights
      → (given_all chain [] heights ≡ first (reached_by heights))
      × (length (given_all chain [] heights) ≡ reached_by heights)
  given_are heights there =
      let whole = all 0 heights (omega arith) there in
      (whole.0, ap length whole.0 ∙ length_taken chain (reached_by heights) whole.1)
