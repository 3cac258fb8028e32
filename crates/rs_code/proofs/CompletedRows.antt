-- Rows by the codeword of the originals that are given.
use Rattle.std.proofs.Common.{◌≡◌, ℕ, suc, ◌+◌, ◌-◌, ◌*◌, ◌/◌, ◌<◌, ◌≤◌, ◌^◌, ◌⊎◌, inl, inr, Bool, true, not, nat_lt, bit_xor, List, ◌++◌, length, get_or, refl, sym, ap, ap₂, ◌∙◌, subst, arith, ⊎_elim, length-append, mul-le-mul_right, lt-ltb, ltb-true, le-ltb}
use Rattle.std.proofs.lemmas.Bool.{cases_lt}
use Rattle.std.proofs.lemmas.Nat.{xor_comm}
use Rattle.std.specs.Int.Bits.{xor_zero_r}
use Rattle.std.proofs.lemmas.List.{get_or_append_left, get_or-append_right}
use Rattle.std.proofs.lemmas.List.Elements.{Contains-get_or}
use Rattle.std.proofs.lemmas.List.Filters.{length-filter_both}
use Rattle.cw_base.specs.Rows.{row_of}
use Rattle.rs_code.specs.Codeword.{through, codeword, ArePoints}
use Rattle.rs_code.specs.Coefficients.{distance, symbol_through}
use Rattle.rs_code.specs.Completions.{given_originals, given_recoveries, apart, AreCompletable, AreSpots, AreSources}
use Rattle.rs_code.specs.Field.{times, inverse}
use Rattle.rs_code.specs.Rows.{symbol, symbol_bytes, joined, row_through, code_row, AreRows}
use Rattle.rs_code.proofs.Codewords.{through_here, through_fits, product_fits, keeps_originals, of_product, plus, mul, o, e, inv, xor_zero}
use Rattle.rs_code.proofs.Completed.{through_completed}
use Rattle.rs_code.proofs.Field.{of, the_field, of_zero, is_field, same, xor_fits}
use Rattle.rs_code.proofs.IndexLaws.{AreSound-filter, AreSound-in_range, Contains-filter, filter_contains, sound_points, place_of}
use Rattle.rs_code.proofs.Polynomial as Polynomial
use Rattle.rs_code.proofs.RowBytes.{length-symbol_bytes, length-joined, symbol_bytes_same, joined_same, symbol_of_rows}
use Rattle.rs_code.proofs.RowLaws.{symbol_fits, bytes_of_symbols, rebuilt_codeword}
use Rattle.rs_code.proofs.RowPicks.{row_long, row_before, row_behind, row_joined, symbol_before, symbol_behind, symbol_picked}
use Rattle.rs_code.proofs.WeightLaws.{distance_is, product_zero}

-- ---- the distance to the originals that are given

distance_fits : (c : ℕ) (K : ℕ → ℕ) (x : ℕ) → distance c K x < 2 ^ 16
distance_fits c K x =
    subst (λ (n : ℕ). n < 2 ^ 16) (sym (distance_is c K x)) (product_fits c (λ u. bit_xor x (K u)))

-- it isn't zero away from them
pub distance_nonzero : (c : ℕ) (K : ℕ → ℕ) (x : ℕ) → x < 2 ^ 16 → ((u : ℕ) → u < c → K u < x)
    → distance c K x ≡ 0 → ⊥
distance_nonzero c K x fits less z =
    Polynomial.product_nonzero plus mul o e inv the_field c (λ u. of (bit_xor x (K u)))
    (λ u l w. absurd (omega (
      arith,
      less u l,
      xor_zero x (K u) fits (omega (arith, fits, less u l))
          (same (bit_xor x (K u)) 0 (xor_fits x (K u) fits (omega (arith, fits, less u l)))
          (omega arith) (w ∙ sym of_zero)),
    )))
    (sym (of_product c (λ u. bit_xor x (K u))) ∙ ap of (sym (distance_is c K x) ∙ z) ∙ of_zero)

module _ (k m : ℕ) (points : List ℕ) (F : AreCompletable k m points) where
  abbrev P : ℕ → ℕ
  P s = get_or points s 0

  abbrev K : ℕ → ℕ
  K u = get_or (given_originals k points) u 0

  abbrev J : ℕ → ℕ
  J j = get_or (given_recoveries k points) j 0

  abbrev c : ℕ
  c = length (given_originals k points)

  abbrev d : ℕ
  d = length (given_recoveries k points)

  pub plan_points : ArePoints k P
  plan_points =
      subst (λ (n : ℕ). ArePoints n P) F.count
      (sound_points (k + m) points F.sound (omega (arith, F.total)))

  -- the recoveries are points too
  pub recovery_points : ArePoints d J
  recovery_points =
      sound_points (k + m) (given_recoveries k points)
      (AreSound-filter (λ x. not (nat_lt x k)) (k + m) points F.sound) (omega (arith, F.total))

  pub split_count : c + d ≡ k
  split_count =
      length-filter_both (λ x. nat_lt x k) (λ x. not (nat_lt x k)) (λ x. refl) points ∙ F.count

  original_less : (u : ℕ) → u < c → K u < k
  original_less u l =
      ltb-true (K u) k
      (Contains-filter (λ x. nat_lt x k) points (K u)
      (Contains-get_or (given_originals k points) u 0 l)).1

  -- a recovery's index isn't below k
  pub recovery_least : (j : ℕ) → j < d → k ≤ J j
  recovery_least j l =
      ⊎_elim {C = k ≤ J j}
      (λ less. absurd (both (nat_lt (J j) k) (lt-ltb (J j) k less)
      (Contains-filter (λ x. not (nat_lt x k)) points (J j)
      (Contains-get_or (given_recoveries k points) j 0 l)).1))
      (λ least. least) (cases_lt (J j) k)
    where
      both : (b : Bool) → b ≡ true → not b ≡ true → ⊥
      both true e f = cc
      both _ e f = cc

  pub recovery_below : (j : ℕ) → j < d → J j < k + m
  recovery_below j l =
      AreSound-in_range (k + m) (given_recoveries k points)
      (AreSound-filter (λ x. not (nat_lt x k)) (k + m) points F.sound) j l

  pub apart_nonzero : (j : ℕ) → j < d → distance c K (J j) ≡ 0 → ⊥
  apart_nonzero j l =
      distance_nonzero c K (J j) (recovery_points.fit j l)
      (λ u h. omega (arith, original_less u h, recovery_least j l))

  -- the place of a point among the originals, or among the recoveries
  original_place : (s : ℕ) → s < k → P s < k → (u : ℕ) × (u < c) × (K u ≡ P s)
  original_place s h less =
      place_of (given_originals k points) (P s)
      (filter_contains (λ x. nat_lt x k) points (P s) (lt-ltb (P s) k less)
      (Contains-get_or points s 0 (omega (arith, h, F.count))))

  recovery_place : (s : ℕ) → s < k → k ≤ P s → (j : ℕ) × (j < d) × (J j ≡ P s)
  recovery_place s h least =
      place_of (given_recoveries k points) (P s)
      (filter_contains (λ x. not (nat_lt x k)) points (P s) (ap not (le-ltb (P s) k least))
      (Contains-get_or points s 0 (omega (arith, h, F.count))))

  -- it is zero at each of them
  apart_zero : (s : ℕ) → s < k → P s < k → distance c K (P s) ≡ 0
  apart_zero s h less =
      let place = original_place s h less in
      distance_is c K (P s)
      ∙ product_zero c (λ u. bit_xor (P s) (K u)) place.0 place.1
      (ap (bit_xor (P s)) place.2 ∙ is_field.sum_self (P s) (plan_points.fit s h))

  -- ---- what the parts give

  module _ (w : ℕ) (rows places missing spots : List ℕ) (some : 0 < w) (R : AreRows k w rows)
      (S : AreSources k (λ x. x) points missing places) (T : AreSpots k points spots) where
    row_within : (s : ℕ) → s < k → s * w + w ≤ length rows
    row_within s h =
        let whole : suc s * w ≤ k * w = mul-le-mul_right w h in omega (arith, whole, R.long)

    -- the rows given and, behind them, one for each original that is missing
    module _ (more : List ℕ) (enough : length more ≡ length missing * w) where
      all_within : (x : ℕ) → x < k → get_or places x 0 * w + w ≤ length (rows ++ more)
      all_within x h =
          let whole : suc (get_or places x 0) * w ≤ (length points + length missing) * w =
          mul-le-mul_right w (S.within x h) in
          let sum : (length points + length missing) * w ≡ length points * w + length missing * w =
          omega arith in
          let front : length points * w ≡ k * w = ap (λ (n : ℕ). n * w) F.count in
          omega (arith, whole, sum, front, length-append rows more, R.long, enough)

      abbrev originals : List ℕ
      originals = joined k (λ x. row_of (rows ++ more) w (get_or places x 0))

      originals_long : length originals ≡ k * w
      originals_long =
          length-joined k w _ (λ x h. row_long (rows ++ more) w (get_or places x 0) (all_within x h))

      original_symbol : (x j : ℕ) → x < k → 2 * j + 1 < w
          → symbol originals w x j ≡ symbol (rows ++ more) w (get_or places x 0) j
      original_symbol x j h l =
          symbol_picked k w (rows ++ more) (λ i. get_or places i 0) all_within x j h l

      -- a row that is given stands there
      given_symbol : (s j : ℕ) → s < k → P s < k → 2 * j + 1 < w
          → symbol originals w (P s) j ≡ symbol rows w s j
      given_symbol s j h less l =
          original_symbol (P s) j less l
          ∙ ap (λ (p : ℕ). symbol (rows ++ more) w p j)
          (S.given s (P s) (omega (arith, h, F.count)) less refl)
          ∙ symbol_before rows more w s j (row_within s h) l

    -- where an original stands: among the rows given, or behind them
    standing : (x : ℕ) → x < k → (((get_or places x 0 < k) × (P (get_or places x 0) ≡ x))
        ⊎ ((i : ℕ) × (i < length missing) × (get_or places x 0 ≡ k + i)
        × (get_or missing i 0 ≡ x)))
    standing x h =
        let p : ℕ = get_or places x 0 in
        ⊎_elim
        {C = ((p < k) × (P p ≡ x))
        ⊎ ((i : ℕ) × (i < length missing) × (p ≡ k + i) × (get_or missing i 0 ≡ x))}
        (λ low. inl (
          low,
          sym (get_or_append_left points missing 0 p (omega (arith, low, F.count))) ∙ S.each x h,
        ))
        (λ high. inr (
          p - k,
          omega (arith, high, S.within x h, F.count),
          omega (arith, high),
          sym (get_or-append_right points missing k p 0 F.count high) ∙ S.each x h,
        ))
        (cases_lt p k)

    -- ---- the codeword of the originals that are given, with zeros for the missing ones

    module _ (zeros near : List ℕ) (enough : length zeros ≡ length missing * w)
        (nothing : (i : ℕ) → get_or zeros i 0 ≡ 0)
        (completed : near ≡ originals zeros enough
        ++ joined m (λ i. code_row k (originals zeros enough) w (k + i))) where
      abbrev v : ℕ → ℕ → ℕ
      v j x = symbol (originals zeros enough) w x j

      zero_symbol : (i j : ℕ) → symbol zeros w i j ≡ 0
      unfolding symbol
      zero_symbol i j =
          ap₂ (λ (x y : ℕ). x * 256 + y) (nothing (i * w + 2 * j)) (nothing (i * w + 2 * j + 1))

      -- it is zero at a missing original
      missing_zero : (x i j : ℕ) → x < k → get_or places x 0 ≡ k + i → 2 * j + 1 < w
          → codeword k (v j) x ≡ 0
      missing_zero x i j h place l =
          let value : v j x ≡ 0 =
          original_symbol zeros enough x j h l
          ∙ ap (λ (p : ℕ). symbol (rows ++ zeros) w p j) place
          ∙ symbol_behind rows zeros w k i j R.long ∙ zero_symbol i j in
          keeps_originals k (v j) (omega (arith, F.total)) x h (omega (arith, value)) ∙ value

      near_symbol : (y j : ℕ) → k ≤ y → y < k + m → j < w / 2
          → symbol near w y j ≡ codeword k (v j) y
      unfolding code_row
      near_symbol y j least below l =
          let i : ℕ = y - k in
          let place : y ≡ k + i = omega (arith, least) in
          ap₂ (λ (xs : List ℕ) (p : ℕ). symbol xs w p j) completed place
          ∙ symbol_behind (originals zeros enough) _ w k i j (originals_long zeros enough)
          ∙ symbol_of_rows m w (λ i j. codeword k (v j) (k + i)) R.even i j
          (omega (arith, least, below)) l
          ∙ ap (codeword k (v j)) (sym place)

      -- ---- the quotients at the recoveries that are given

      module _ (scales quotients : List ℕ)
          (scaled : (j : ℕ) → j < d → get_or scales j 0 ≡ inverse (apart k points (J j)))
          (made : quotients ≡ joined d (λ j. symbol_bytes (w / 2)
          (λ t. times (bit_xor (symbol rows w (get_or spots j 0) t) (symbol near w (J j) t))
          (get_or scales j 0)))) where
        quotient : (j t : ℕ) → j < d → t < w / 2 → symbol quotients w j t
            ≡ times (bit_xor (symbol rows w (get_or spots j 0) t) (symbol near w (J j) t))
            (get_or scales j 0)
        quotient j t h l =
            ap (λ (xs : List ℕ). symbol xs w j t) made
            ∙ symbol_of_rows d w
            (λ j t. times (bit_xor (symbol rows w (get_or spots j 0) t) (symbol near w (J j) t))
            (get_or scales j 0)) R.even j t h l

        apart_is : (x : ℕ) → apart k points x ≡ distance c K x
        unfolding apart
        apart_is x = refl

        -- the rows in one column, by the codeword and the quotients
        column : (t x : ℕ) → t < w / 2 →
            through k P (λ s. symbol rows w s t) x
            ≡ bit_xor (codeword k (v t) x)
            (times (distance c K x) (through d J (λ j. symbol quotients w j t) x))
        column t x l =
            through_completed k c d P K J (λ s. symbol rows w s t) (λ j. symbol quotients w j t)
            (v t) split_count (omega (arith, F.total)) plan_points recovery_points
            (λ s h. met s h (cases_lt (P s) k)) x
          where
            in_row : 2 * t + 1 < w
            in_row = omega (arith, l)

            symbol_small : (s : ℕ) → symbol rows w s t < 2 ^ 16
            symbol_small s = symbol_fits k w rows R s t

            met : (s : ℕ) → s < k → (P s < k) ⊎ (k ≤ P s) →
                ((distance c K (P s) ≡ 0) × (codeword k (v t) (P s) ≡ symbol rows w s t))
                ⊎ ((j : ℕ) × (j < d) × (P s ≡ J j) × (distance c K (P s) ≡ 0 → ⊥)
                × (symbol quotients w j t
                ≡ times (bit_xor (symbol rows w s t) (codeword k (v t) (P s)))
                (inverse (distance c K (P s)))))
            met s h (inl less) =
                let value : v t (P s) ≡ symbol rows w s t =
                given_symbol zeros enough s t h less in_row in
                inl (
                  apart_zero s h less,
                  keeps_originals k (v t) (omega (arith, F.total)) (P s) less
                      (omega (arith, value, symbol_small s)) ∙ value,
                )
            met s h (inr least) =
                let place = recovery_place s h least in
                let j : ℕ = place.0 in
                let hj : j < d = place.1 in
                let own : J j ≡ P s = place.2 in
                let spot : get_or spots j 0 ≡ s =
                plan_points.distinct (get_or spots j 0) s
                (omega (arith, T.within j (omega (arith, hj, T.count)), F.count)) h
                (T.each j (omega (arith, hj, T.count)) ∙ own) in
                inr (
                  j,
                  hj,
                  sym own,
                  λ z. apart_nonzero j hj (ap (distance c K) own ∙ z),
                  quotient j t hj l
                      ∙ ap₂ times
                      (ap₂ bit_xor (ap (λ (p : ℕ). symbol rows w p t) spot)
                      (ap (λ (y : ℕ). symbol near w y t) own
                      ∙ near_symbol (P s) t least
                      (omega (arith, sym own, recovery_below j hj)) l))
                      (scaled j hj ∙ ap inverse (apart_is (J j) ∙ ap (distance c K) own)),
                )

        -- ---- the originals

        module _ (distances factors found : List ℕ)
            (measured : (i : ℕ) → i < length missing
            → get_or distances i 0 ≡ apart k points (get_or missing i 0))
            (known : factors ≡ joined (length missing) (λ i. symbol_bytes (w / 2)
            (λ t. symbol_through (given_recoveries k points) quotients w (get_or missing i 0) t)))
            (made_of : found ≡ joined (length missing) (λ i. symbol_bytes (w / 2)
            (λ t. times (symbol factors w i t) (get_or distances i 0)))) where
          pub found_enough : length found ≡ length missing * w
          found_enough =
              ap length made_of
              ∙ length-joined (length missing) w _
              (λ i h. length-symbol_bytes (w / 2) _ ∙ omega (arith, R.even))

          factor : (i t : ℕ) → i < length missing → t < w / 2 → symbol factors w i t
              ≡ through d J (λ j. symbol quotients w j t) (get_or missing i 0)
          unfolding symbol_through
          factor i t h l =
              ap (λ (xs : List ℕ). symbol xs w i t) known
              ∙ symbol_of_rows (length missing) w
              (λ i t. through d J (λ j. symbol quotients w j t) (get_or missing i 0)) R.even i t h l

          -- a missing original is its quotient times its distance
          missing_row : (x i : ℕ) → x < k → i < length missing → get_or places x 0 ≡ k + i
              → get_or missing i 0 ≡ x
              → row_of (rows ++ found) w (get_or places x 0) ≡ row_through k P rows w x
          unfolding row_through
          missing_row x i h hi place own =
              let whole : suc i * w ≤ length missing * w = mul-le-mul_right w hi in
              ap (row_of (rows ++ found) w) place
              ∙ row_behind rows found w k i R.long (omega (arith, whole, found_enough))
              ∙ ap (λ (xs : List ℕ). row_of xs w i) made_of
              ∙ row_joined (length missing) w _
              (λ i h. length-symbol_bytes (w / 2) _ ∙ omega (arith, R.even)) i hi
              ∙ symbol_bytes_same (w / 2) _ _
              (λ t l.
              ap₂ times
              (factor i t hi l ∙ ap (through d J (λ j. symbol quotients w j t)) own)
              (measured i hi ∙ ap (apart k points) own ∙ apart_is x)
              ∙ is_field.product_comm _ _ (through_fits d J _ x) (distance_fits c K x)
              ∙ sym (column t x l
              ∙ ap (λ (q : ℕ). bit_xor q (times (distance c K x)
              (through d J (λ j. symbol quotients w j t) x)))
              (missing_zero x i t h place (omega (arith, l)))
              ∙ xor_comm 0 _ ∙ xor_zero_r _))

          -- an original that is given is the polynomial's value at its own point
          given_row : (x : ℕ) → x < k → get_or places x 0 < k → P (get_or places x 0) ≡ x
              → row_of (rows ++ found) w (get_or places x 0) ≡ row_through k P rows w x
          unfolding row_through
          given_row x h low own =
              let p : ℕ = get_or places x 0 in
              row_before rows found w p (row_within p low)
              ∙ sym (bytes_of_symbols k w rows R p low)
              ∙ symbol_bytes_same (w / 2) _ _
              (λ t l. sym (through_here k P (λ s. symbol rows w s t) plan_points p low
              (symbol_fits k w rows R p t))
              ∙ ap (through k P (λ s. symbol rows w s t)) own)

          pub completed_originals : originals found found_enough
              ≡ joined k (λ x. row_through k P rows w x)
          completed_originals =
              joined_same k _ _
              (λ x h. ⊎_elim
              (λ low. given_row x h low.0 low.1)
              (λ high. missing_row x high.0 h high.1 high.2 high.3) (standing x h))

          -- ---- all rows

          pub completed_row : (whole : List ℕ) → whole ≡ originals found found_enough
              ++ joined m (λ i. code_row k (originals found found_enough) w (k + i))
              → (x : ℕ) → x < k + m → row_of whole w x ≡ row_through k P rows w x
          unfolding row_through code_row
          completed_row whole all x h =
              ⊎_elim {C = row_of whole w x ≡ row_through k P rows w x}
              (λ low.
              let fits : suc x * w ≤ k * w = mul-le-mul_right w low in
              ap (λ (xs : List ℕ). row_of xs w x) all
              ∙ row_before own _ w x (omega (arith, fits, own_long))
              ∙ ap (λ (xs : List ℕ). row_of xs w x) completed_originals
              ∙ row_joined k w (row_through k P rows w) (λ i _. through_long i) x low)
              (λ high.
              let i : ℕ = x - k in
              let place : x ≡ k + i = omega (arith, high) in
              let below : i < m = omega (arith, high, h) in
              let fits : suc i * w ≤ m * w = mul-le-mul_right w below in
              let others : ℕ → List ℕ = λ i. code_row k own w (k + i) in
              let long : length (joined m others) ≡ m * w =
              length-joined m w others (λ i _. code_long i) in
              ap₂ (λ (xs : List ℕ) (y : ℕ). row_of xs w y) all place
              ∙ row_behind own (joined m others) w k i own_long (omega (arith, fits, long))
              ∙ row_joined m w others (λ i _. code_long i) i below
              ∙ ap (λ (xs : List ℕ). code_row k xs w (k + i)) completed_originals
              ∙ rebuilt_codeword k w rows P (omega (arith, F.total)) R.even plan_points (k + i)
              ∙ ap (row_through k P rows w) (sym place))
              (cases_lt x k)
            where
              own : List ℕ
              own = originals found found_enough

              own_long : length (originals found found_enough) ≡ k * w
              own_long = originals_long found found_enough

              through_long : (i : ℕ) → length (row_through k P rows w i) ≡ w
              through_long i = length-symbol_bytes (w / 2) _ ∙ omega (arith, R.even)

              code_long : (i : ℕ) → length (code_row k (originals found found_enough) w (k + i)) ≡ w
              code_long i = length-symbol_bytes (w / 2) _ ∙ omega (arith, R.even)
