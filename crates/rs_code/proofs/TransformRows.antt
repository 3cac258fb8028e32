-- Rows of symbols in two halves, and the transform's steps on all columns.
use Rattle.std.proofs.Common.{◌≡◌, ◌⊎◌, ℕ, suc, refl, ◌+◌, ◌-◌, ◌*◌, ◌/◌, ◌%◌, ◌^◌, ◌<◌, ◌≤◌, ◌++◌, List, length, get_or, bit_xor, sym, ap, ap₂, ◌∙◌, subst, arith, ⊎_elim, mul-le-mul_right, div-add-mod', mod-lt}
use Rattle.std.proofs.lemmas.Bool.{cases_eq, cases_lt}
use Rattle.std.proofs.lemmas.Nat.{mul-add-lt, xor_comm}
use Rattle.std.proofs.lemmas.List.{get_or_append_left, get_or-append_right}
use Rattle.std.specs.Int.Bits.{xor_zero_r, xor_zero_l, xor_self, xor_assoc}
use Rattle.rs_code.specs.Columns.{entry}
use Rattle.rs_code.specs.Field.{times}
use Rattle.rs_code.specs.Transform.{vanishing, combined}
use Rattle.rs_code.proofs.VanishingSums.{half_of}
use Rattle.rs_code.proofs.TransformLaws.{low_half, high_half}

pub place_below : (i h n j : ℕ) → i < h → j < n → i * n + j < h * n
place_below i h n j hi hj = omega (arith, mul-add-lt i n j h hi hj)

entry_is : (rows : List ℕ) (n i j : ℕ) → entry rows n i j ≡ get_or rows (i * n + j) 0
unfolding entry
entry_is rows n i j = refl

cancel_last : (a x : ℕ) → bit_xor (bit_xor a x) x ≡ a
cancel_last a x = xor_assoc a x x ∙ ap (bit_xor a) (xor_self x) ∙ xor_zero_r a

cancel_first : (a x : ℕ) → bit_xor x (bit_xor x a) ≡ a
cancel_first a x =
    sym (xor_assoc x x a) ∙ ap (λ (n : ℕ). bit_xor n a) (xor_self x) ∙ xor_zero_l a

-- ---- two halves of h rows each

entry_low : (low high : List ℕ) (h n i j : ℕ) → length low ≡ h * n → i < h → j < n
    → entry (low ++ high) n i j ≡ entry low n i j
entry_low low high h n i j long hi hj =
    entry_is (low ++ high) n i j
    ∙ get_or_append_left low high 0 (i * n + j) (omega (arith, place_below i h n j hi hj, long))
    ∙ sym (entry_is low n i j)

entry_high : (low high : List ℕ) (h n i j : ℕ) → length low ≡ h * n
    → entry (low ++ high) n (h + i) j ≡ entry high n i j
entry_high low high h n i j long =
    let place : (h + i) * n + j ≡ length low + (i * n + j) = omega (arith, long) in
    entry_is (low ++ high) n (h + i) j
    ∙ ap (λ (p : ℕ). get_or (low ++ high) p 0) place
    ∙ get_or-append_right low high (length low) (length low + (i * n + j)) 0 refl (omega arith)
    ∙ ap (λ (p : ℕ). get_or high p 0)
    (let left : length low + (i * n + j) - length low ≡ i * n + j = omega arith in left)
    ∙ sym (entry_is high n i j)

-- where rows have zeros from one on, their second half has zeros from a place on
pub high_zeros : (n h t given : ℕ) (rows low high : List ℕ) → rows ≡ low ++ high
    → length low ≡ h * n → 2 ^ t ≡ h + h →
    ((i j : ℕ) → given ≤ i → i < 2 ^ t → j < n → entry rows n i j ≡ 0) →
    (p : ℕ) → (given - h) * n ≤ p → p < h * n → get_or high p 0 ≡ 0
high_zeros n h t given rows low high split long whole zeros p from to =
    let i : ℕ = p / n in
    let j : ℕ = p % n in
    let place : i * n + j ≡ p = div-add-mod' p n in
    let some : 0 < n =
    ⊎_elim
    (λ none. absurd
    (let nothing : h * n ≡ h * 0 = ap (λ (m : ℕ). h * m) none in
    omega (arith, nothing, to)))
    (λ more. omega (arith, more)) (cases_eq n 0) in
    let column : j < n = mod-lt p some in
    let below : i < h =
    ⊎_elim (λ less. less)
    (λ more. absurd
    (let past : h * n ≤ i * n = mul-le-mul_right n more in omega (arith, past, place, to)))
    (cases_lt i h) in
    let after : given - h ≤ i =
    ⊎_elim
    (λ less. absurd
    (let short : suc i * n ≤ (given - h) * n = mul-le-mul_right n less in
    omega (arith, short, place, column, from)))
    (λ more. more) (cases_lt i (given - h)) in
    ap (λ (q : ℕ). get_or high q 0) (sym place)
    ∙ sym (entry_is high n i j)
    ∙ sym (entry_high low high h n i j long)
    ∙ sym (ap (λ (xs : List ℕ). entry xs n (h + i) j) split)
    ∙ zeros (h + i) j (omega (arith, after)) (omega (arith, below, whole)) column

module _ (n s block factor : ℕ) (rows low high : List ℕ)
    (split : rows ≡ low ++ high) (long_low : length low ≡ 2 ^ s * n)
    (small : s < 16) (t : ℕ) (next : suc s ≡ t)
    (is_factor : factor ≡ vanishing s (block * 2 ^ t)) where
  abbrev h : ℕ
  h = 2 ^ s

  within : (i j : ℕ) → i < h → j < n → i * n + j < h * n
  within i j hi hj = place_below i h n j hi hj

  low_entry : (i j : ℕ) → i < h → j < n → entry low n i j ≡ entry rows n i j
  low_entry i j hi hj =
      sym
      (ap (λ (xs : List ℕ). entry xs n i j) split ∙ entry_low low high h n i j long_low hi hj)

  high_entry : (i j : ℕ) → entry high n i j ≡ entry rows n (h + i) j
  high_entry i j =
      sym
      (ap (λ (xs : List ℕ). entry xs n (h + i) j) split ∙ entry_high low high h n i j long_low)

  factor_is : factor ≡ vanishing s (block * 2 ^ suc s)
  factor_is = is_factor ∙ ap (λ (m : ℕ). vanishing s (block * 2 ^ m)) (sym next)

  either_half : (i : ℕ) → i < 2 ^ t → (i < h) ⊎ ((r : ℕ) × (r < h) × (i ≡ h + r))
  either_half i l = half_of s i (subst (λ (m : ℕ). i < 2 ^ m) (sym next) l)

  whole : (d : ℕ → ℕ) (i : ℕ)
      → combined (suc s) d (block * 2 ^ suc s + i) ≡ combined t d (block * 2 ^ t + i)
  whole d i = ap (λ (m : ℕ). combined m d (block * 2 ^ m + i)) next

  -- the values by the first half, and by the second
  low_value : (d a : ℕ → ℕ) → ((r : ℕ) → d r < 2 ^ 16) →
      ((r : ℕ) → r < h → a r ≡ bit_xor (d r) (times factor (d (h + r)))) → (i : ℕ) → i < h →
      combined s a (2 * block * h + i) ≡ combined t d (block * 2 ^ t + i)
  low_value d a fits step i l =
      low_half s block d a small (λ j _. fits j)
      (λ r m. step r m ∙ ap (λ (f : ℕ). bit_xor (d r) (times f (d (h + r)))) factor_is) i l
      ∙ whole d i

  high_value : (d a b : ℕ → ℕ) → ((r : ℕ) → d r < 2 ^ 16) →
      ((r : ℕ) → r < h → a r ≡ bit_xor (d r) (times factor (d (h + r)))) →
      ((r : ℕ) → r < h → b r ≡ bit_xor (a r) (d (h + r))) → (i : ℕ) → i < h →
      combined s b ((2 * block + 1) * h + i) ≡ combined t d (block * 2 ^ t + (h + i))
  high_value d a b fits step rest i l =
      high_half s block d a b small (λ j _. fits j)
      (λ r m. step r m ∙ ap (λ (f : ℕ). bit_xor (d r) (times f (d (h + r)))) factor_is) rest i l
      ∙ whole d (h + i)

  -- ---- from coefficients to values

  pub forward_values : (low1 high1 low2 high2 : List ℕ) (first last : ℕ)
      → ((p : ℕ) → get_or rows p 0 < 2 ^ 16) →
      ((p : ℕ) → p < h * n
      → get_or low1 p 0 ≡ bit_xor (get_or low p 0) (times factor (get_or high p 0))) →
      ((p : ℕ) → p < h * n → get_or high1 p 0 ≡ bit_xor (get_or low1 p 0) (get_or high p 0)) →
      ((i j : ℕ) → first ≤ i → i < last → i < h → j < n
      → entry low2 n i j ≡ combined s (λ r. entry low1 n r j) (2 * block * h + i)) →
      ((i j : ℕ) → first - h ≤ i → i < last - h → i < h → j < n
      → entry high2 n i j ≡ combined s (λ r. entry high1 n r j) ((2 * block + 1) * h + i)) →
      length low2 ≡ h * n →
      (i j : ℕ) → first ≤ i → i < last → i < 2 ^ t → j < n →
      entry (low2 ++ high2) n i j ≡ combined t (λ r. entry rows n r j) (block * 2 ^ t + i)
  forward_values low1 high1 low2 high2 first last fits step rest below above long i j from to l hj =
      let d : ℕ → ℕ = λ r. entry rows n r j in
      let d_fits : (r : ℕ) → d r < 2 ^ 16 =
      λ r. subst (λ (m : ℕ). m < 2 ^ 16) (sym (entry_is rows n r j)) (fits (r * n + j)) in
      let a_step : (r : ℕ) → r < h → entry low1 n r j ≡ bit_xor (d r) (times factor (d (h + r))) =
      λ r m. entry_is low1 n r j ∙ step (r * n + j) (within r j m hj)
      ∙ ap₂ (λ (x y : ℕ). bit_xor x (times factor y))
      (sym (entry_is low n r j) ∙ low_entry r j m hj)
      (sym (entry_is high n r j) ∙ high_entry r j) in
      let b_step : (r : ℕ) → r < h → entry high1 n r j ≡ bit_xor (entry low1 n r j) (d (h + r)) =
      λ r m. entry_is high1 n r j ∙ rest (r * n + j) (within r j m hj)
      ∙ ap₂ bit_xor (sym (entry_is low1 n r j))
      (sym (entry_is high n r j) ∙ high_entry r j) in
      ⊎_elim
      (λ first_half. entry_low low2 high2 h n i j long first_half hj
      ∙ below i j from to first_half hj
      ∙ low_value d (λ r. entry low1 n r j) d_fits a_step i first_half)
      (λ second_half.
      let r : ℕ = second_half.0 in
      let place : i ≡ h + r = second_half.2 in
      ap (λ (m : ℕ). entry (low2 ++ high2) n m j) place
      ∙ entry_high low2 high2 h n r j long
      ∙ above r j (omega (arith, from, place)) (omega (arith, to, place)) second_half.1 hj
      ∙ high_value d (λ r. entry low1 n r j) (λ r. entry high1 n r j) d_fits a_step b_step r
      second_half.1
      ∙ ap (λ (m : ℕ). combined t d (block * 2 ^ t + m)) (sym place))
      (either_half i l)

  -- ---- from values and coefficients to coefficients

  module _ (known : ℕ) where
    abbrev pub HasValues : List ℕ → Type 0
    HasValues news =
        (i j : ℕ) → i < known → j < n
        → combined t (λ r. entry news n r j) (block * 2 ^ t + i) ≡ entry rows n i j

    abbrev pub HasOthers : List ℕ → Type 0
    HasOthers news =
        (i j : ℕ) → known ≤ i → i < 2 ^ t → j < n → entry news n i j ≡ entry rows n i j

    -- the known values fill no more than the first half
    pub few_known : (low1 low2 low3 : List ℕ) → known ≤ h →
        ((p : ℕ) → get_or (low3 ++ high) p 0 < 2 ^ 16) →
        ((p : ℕ) → p < known * n → get_or low1 p 0 ≡ get_or low p 0) →
        ((p : ℕ) → known * n ≤ p → p < h * n
        → get_or low1 p 0 ≡ bit_xor (get_or low p 0) (times factor (get_or high p 0))) →
        ((i j : ℕ) → i < known → j < n
        → combined s (λ r. entry low2 n r j) (2 * block * h + i) ≡ entry low1 n i j) →
        ((i j : ℕ) → known ≤ i → i < h → j < n → entry low2 n i j ≡ entry low1 n i j) →
        ((p : ℕ) → p < h * n
        → get_or low3 p 0 ≡ bit_xor (get_or low2 p 0) (times factor (get_or high p 0))) →
        length low3 ≡ h * n →
        HasValues (low3 ++ high) × HasOthers (low3 ++ high)
    few_known low1 low2 low3 few fits kept added values others last long = (
      λ i j hi hj.
          let d : ℕ → ℕ = λ r. entry (low3 ++ high) n r j in
          let first_half : i < h = omega (arith, hi, few) in
          sym
          (low_value d (λ r. entry low2 n r j)
          (λ r. subst (λ (m : ℕ). m < 2 ^ 16) (sym (entry_is (low3 ++ high) n r j))
          (fits (r * n + j)))
          (λ r m. sym (cancel_last (entry low2 n r j) (times factor (entry high n r j)))
          ∙ ap₂ (λ (x y : ℕ). bit_xor x (times factor y))
          (sym (low3_entry r j m hj) ∙ sym (entry_low low3 high h n r j long m hj))
          (sym (entry_high low3 high h n r j long)))
          i first_half)
          ∙ values i j hi hj
          ∙ entry_is low1 n i j ∙ kept (i * n + j) (place_below i known n j hi hj)
          ∙ sym (entry_is low n i j) ∙ low_entry i j first_half hj,
      λ i j hi l hj.
          ⊎_elim
          (λ first_half. entry_low low3 high h n i j long first_half hj
          ∙ low3_entry i j first_half hj
          ∙ ap (λ (x : ℕ). bit_xor x (times factor (entry high n i j)))
          (others i j hi first_half hj ∙ entry_is low1 n i j
          ∙ added (i * n + j)
          (let rows_before : known * n ≤ i * n = mul-le-mul_right n hi in
          omega (arith, rows_before))
          (within i j first_half hj)
          ∙ ap₂ (λ (x y : ℕ). bit_xor x (times factor y)) (sym (entry_is low n i j))
          (sym (entry_is high n i j)))
          ∙ cancel_last (entry low n i j) (times factor (entry high n i j))
          ∙ low_entry i j first_half hj)
          (λ second_half.
          let r : ℕ = second_half.0 in
          ap (λ (m : ℕ). entry (low3 ++ high) n m j) second_half.2
          ∙ entry_high low3 high h n r j long
          ∙ high_entry r j
          ∙ ap (λ (m : ℕ). entry rows n m j) (sym second_half.2))
          (either_half i l),
    )
      where
        low3_entry : (i j : ℕ) → i < h → j < n
            → entry low3 n i j ≡ bit_xor (entry low2 n i j) (times factor (entry high n i j))
        low3_entry i j hi hj =
            entry_is low3 n i j ∙ last (i * n + j) (within i j hi hj)
            ∙ ap₂ (λ (x y : ℕ). bit_xor x (times factor y)) (sym (entry_is low2 n i j))
            (sym (entry_is high n i j))

    -- they fill more
    pub many_known : (low1 low3 high1 high2 high3 : List ℕ) → h < known →
        ((p : ℕ) → get_or (low3 ++ high3) p 0 < 2 ^ 16) →
        ((i j : ℕ) → i < h → j < n
        → combined s (λ r. entry low1 n r j) (2 * block * h + i) ≡ entry low n i j) →
        ((p : ℕ) → p < (known - h) * n → get_or high1 p 0 ≡ get_or high p 0) →
        ((p : ℕ) → (known - h) * n ≤ p → p < h * n
        → get_or high1 p 0 ≡ bit_xor (get_or high p 0) (get_or low1 p 0)) →
        ((i j : ℕ) → i < known - h → j < n
        → combined s (λ r. entry high2 n r j) ((2 * block + 1) * h + i) ≡ entry high1 n i j) →
        ((i j : ℕ) → known - h ≤ i → i < h → j < n → entry high2 n i j ≡ entry high1 n i j) →
        ((p : ℕ) → p < h * n → get_or high3 p 0 ≡ bit_xor (get_or low1 p 0) (get_or high2 p 0)) →
        ((p : ℕ) → p < h * n
        → get_or low3 p 0 ≡ bit_xor (get_or low1 p 0) (times factor (get_or high3 p 0))) →
        length low3 ≡ h * n → known ≤ 2 ^ t →
        HasValues (low3 ++ high3) × HasOthers (low3 ++ high3)
    many_known low1 low3 high1 high2 high3 many fits low_values kept added values others back front
        long bound = (
          λ i j hi hj.
              let d : ℕ → ℕ = λ r. entry (low3 ++ high3) n r j in
              ⊎_elim
              (λ first_half. sym
              (low_value d (λ r. entry low1 n r j) (d_fits j) (a_step j hj) i first_half)
              ∙ low_values i j first_half hj ∙ low_entry i j first_half hj)
              (λ second_half.
              let r : ℕ = second_half.0 in
              let place : i ≡ h + r = second_half.2 in
              let known_above : r < known - h = omega (arith, hi, place, many) in
              ap (λ (m : ℕ). combined t d (block * 2 ^ t + m)) place
              ∙ sym
              (high_value d (λ r. entry low1 n r j) (λ r. entry high2 n r j) (d_fits j) (a_step j hj)
              (λ q m. sym (cancel_first (entry high2 n q j) (entry low1 n q j))
              ∙ ap (bit_xor (entry low1 n q j))
              (sym (high3_entry q j m hj) ∙ sym (entry_high low3 high3 h n q j long)))
              r second_half.1)
              ∙ values r j known_above hj ∙ entry_is high1 n r j
              ∙ kept (r * n + j) (place_below r (known - h) n j known_above hj)
              ∙ sym (entry_is high n r j)
              ∙ high_entry r j ∙ ap (λ (m : ℕ). entry rows n m j) (sym place))
              (either_half i (omega (arith, hi, bound))),
          λ i j hi l hj.
              ⊎_elim
              (λ first_half. absurd (omega (arith, hi, first_half, many)))
              (λ second_half.
              let r : ℕ = second_half.0 in
              let place : i ≡ h + r = second_half.2 in
              let from : known - h ≤ r = omega (arith, hi, place) in
              ap (λ (m : ℕ). entry (low3 ++ high3) n m j) place
              ∙ entry_high low3 high3 h n r j long
              ∙ high3_entry r j second_half.1 hj
              ∙ ap (bit_xor (entry low1 n r j))
              (others r j from second_half.1 hj ∙ entry_is high1 n r j
              ∙ added (r * n + j)
              (let rows_before : (known - h) * n ≤ r * n = mul-le-mul_right n from in
              omega (arith, rows_before))
              (within r j second_half.1 hj)
              ∙ ap₂ bit_xor (sym (entry_is high n r j)) (sym (entry_is low1 n r j))
              ∙ xor_comm (entry high n r j) (entry low1 n r j))
              ∙ cancel_first (entry high n r j) (entry low1 n r j)
              ∙ high_entry r j ∙ ap (λ (m : ℕ). entry rows n m j) (sym place))
              (either_half i l),
        )
      where
        d_fits : (j r : ℕ) → entry (low3 ++ high3) n r j < 2 ^ 16
        d_fits j r =
            subst (λ (m : ℕ). m < 2 ^ 16) (sym (entry_is (low3 ++ high3) n r j))
            (fits (r * n + j))

        high3_entry : (i j : ℕ) → i < h → j < n
            → entry high3 n i j ≡ bit_xor (entry low1 n i j) (entry high2 n i j)
        high3_entry i j hi hj =
            entry_is high3 n i j ∙ back (i * n + j) (within i j hi hj)
            ∙ ap₂ bit_xor (sym (entry_is low1 n i j)) (sym (entry_is high2 n i j))

        a_step : (j : ℕ) → j < n → (r : ℕ) → r < h → entry low1 n r j
            ≡ bit_xor (entry (low3 ++ high3) n r j) (times factor (entry (low3 ++ high3) n (h + r) j))
        a_step j hj r m =
            sym (cancel_last (entry low1 n r j) (times factor (entry high3 n r j)))
            ∙ ap₂ (λ (x y : ℕ). bit_xor x (times factor y))
            (sym
            (entry_is low3 n r j ∙ front (r * n + j) (within r j m hj)
            ∙ ap₂ (λ (x y : ℕ). bit_xor x (times factor y)) (sym (entry_is low1 n r j))
            (sym (entry_is high3 n r j)))
            ∙ sym (entry_low low3 high3 h n r j long m hj))
            (sym (entry_high low3 high3 h n r j long))
