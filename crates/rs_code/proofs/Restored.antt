-- Rows that are copied where they are given, and made where they are missing.
use Rattle.std.proofs.Common.{◌≡◌, ℕ, suc, ◌+◌, ◌-◌, ◌*◌, ◌/◌, ◌%◌, ◌<◌, ◌≤◌, ◌^◌, List, [], ◌++◌, length, take, get_or, sym, ap, ◌∙◌, arith, ⊎_elim, length-take-le, mul-le-mul_right}
use Rattle.std.proofs.lemmas.Bool.{cases_lt}
use Rattle.std.proofs.lemmas.List.{get_or_append_left, get_or-append_right}
use Rattle.cw_base.specs.Rows.{row_of}
use Rattle.rs_code.specs.Codeword.{ArePoints}
use Rattle.rs_code.specs.Completions.{AreSources}
use Rattle.rs_code.specs.Indices.{AreSound}
use Rattle.rs_code.specs.Plans.{Shape}
use Rattle.rs_code.specs.Rows.{symbol, joined, row_through, code_row, AreRows}
use Rattle.rs_code.proofs.Codewords.{through_here}
use Rattle.rs_code.proofs.CompletionSteps.{rows_added, rows_many, rows_whole}
use Rattle.rs_code.proofs.IndexLaws.{AreSound-points}
use Rattle.rs_code.proofs.RowBytes.{joined_none, joined_same, length-joined, length-symbol_bytes, row_of_codeword, symbol_bytes_same}
use Rattle.rs_code.proofs.RowLaws.{bytes_of_symbols, symbol_fits}
use Rattle.rs_code.proofs.RowPicks.{row_before, row_behind, row_joined}

-- where all of k rows are taken from, by a list of their indices
pub all_sources : (k : ℕ) (all points missing places : List ℕ) → length all ≡ k
    → ((s : ℕ) → s < k → get_or all s 0 ≡ s)
    → AreSources (length all) (λ i. get_or all i 0) points missing places
    → AreSources k (λ x. x) points missing places
all_sources k all points missing places long each S = record {
  few = omega (arith, long, S.few);
  count = S.count ∙ long;
  within = λ i h. S.within i (omega (arith, h, long));
  each = λ i h. S.each i (omega (arith, h, long)) ∙ each i h;
  given = λ s i h l e. S.given s i h (omega (arith, l, long)) (e ∙ sym (each i l));
}

-- no rows
pub none_joined : (n : ℕ) (row : ℕ → List ℕ) (out : List ℕ) → out ≡ [] → n ≡ 0 → out ≡ joined n row
none_joined n row out empty none =
    empty ∙ sym (joined_none row) ∙ ap (λ (k : ℕ). joined k row) (sym none)

-- a row that is given is that at its point of the rows through all of them
pub row_here : (k w : ℕ) (rows : List ℕ) (P : ℕ → ℕ) → AreRows k w rows → ArePoints k P
    → (s : ℕ) → s < k → row_of rows w s ≡ row_through k P rows w (P s)
unfolding row_through
row_here k w rows P R points s h =
    sym (symbol_bytes_same (w / 2) _ _
    (λ j _. through_here k P (λ t. symbol rows w t j) points s h (symbol_fits k w rows R s j))
    ∙ bytes_of_symbols k w rows R s h)

pub length-row : (k : ℕ) (P : ℕ → ℕ) (rows : List ℕ) (w x : ℕ) → w % 2 ≡ 0
    → length (row_through k P rows w x) ≡ w
unfolding row_through
length-row k P rows w x even = length-symbol_bytes (w / 2) _ ∙ omega (arith, even)

module _ (k w n : ℕ) (target : ℕ → ℕ) (points missing places rows made : List ℕ) (some : 0 < w)
    (count : length points ≡ k) (R : AreRows k w rows)
    (P : ArePoints k (λ s. get_or points s 0))
    (S : AreSources n target points missing places)
    (M : made ≡ joined (length missing)
    (λ j. row_through k (λ s. get_or points s 0) rows w (get_or missing j 0))) where
  pub made_long : length made ≡ length missing * w
  made_long =
      ap length M
      ∙ length-joined (length missing) w _
      (λ j _. length-row k (λ s. get_or points s 0) rows w (get_or missing j 0) R.even)

  pub sources_fit : (i : ℕ) → i < length places
      → get_or places i 0 < (length rows + length made) / w
  sources_fit i h =
      omega (
        arith,
        S.within i (omega (arith, h, S.count)),
        count,
        rows_many rows k w some R.long,
        rows_added rows made w (length missing) some (rows_whole rows k w R.long) made_long,
      )

  row_taken : (i : ℕ) → i < n → row_of (rows ++ made) w (get_or places i 0)
      ≡ row_through k (λ s. get_or points s 0) rows w (target i)
  row_taken i h =
      ⊎_elim {C = row_of (rows ++ made) w p ≡ row_through k at rows w (target i)}
      (λ less.
      (let whole : suc p * w ≤ k * w = mul-le-mul_right w less in
      row_before rows made w p (omega (arith, whole, R.long))
      ∙ row_here k w rows at R P p less
      ∙ ap (row_through k at rows w)
      (sym (get_or_append_left points missing 0 p (omega (arith, less, count))) ∙ S.each i h)))
      (λ least.
      (let j : ℕ = p - k in
      let place : p ≡ k + j = omega (arith, least) in
      let within : j < length missing = omega (arith, S.within i h, count, least) in
      let whole : suc j * w ≤ length missing * w = mul-le-mul_right w within in
      ap (row_of (rows ++ made) w) place
      ∙ row_behind rows made w k j R.long (omega (arith, whole, made_long))
      ∙ ap (λ (xs : List ℕ). row_of xs w j) M
      ∙ row_joined (length missing) w _
      (λ j _. length-row k at rows w (get_or missing j 0) R.even) j within
      ∙ ap (row_through k at rows w)
      (sym (get_or-append_right points missing k p 0 count least) ∙ S.each i h)))
      (cases_lt p k)
    where
      at : ℕ → ℕ
      at s = get_or points s 0

      p : ℕ
      p = get_or places i 0

  -- the rows that are taken
  pub rows_taken : (out : List ℕ)
      → out ≡ joined (length places) (λ i. row_of (rows ++ made) w (get_or places i 0))
      → out ≡ joined n (λ i. row_through k (λ s. get_or points s 0) rows w (target i))
  rows_taken out made_of =
      made_of
      ∙ ap (λ (l : ℕ). joined l (λ i. row_of (rows ++ made) w (get_or places i 0))) S.count
      ∙ joined_same n _ _ row_taken

-- ---- the originals, by the first k of the rows that are present

module _ (k w : ℕ) (present rows all : List ℕ) (long : length all ≡ k)
    (each : (s : ℕ) → s < k → get_or all s 0 ≡ s) where
  abbrev restored : List ℕ
  restored = joined k (λ i. row_through k (λ s. get_or (take k present) s 0) rows w i)

  every : joined (length all)
      (λ i. row_through k (λ s. get_or (take k present) s 0) rows w (get_or all i 0)) ≡ restored
  every =
      ap
      (λ (n : ℕ). joined n
      (λ i. row_through k (λ s. get_or (take k present) s 0) rows w (get_or all i 0)))
      long
      ∙ joined_same k _ _
      (λ i h. ap (row_through k (λ s. get_or (take k present) s 0) rows w) (each i h))

  -- where they are copied
  pub all_copied : (points out : List ℕ) → points ≡ take k present → k ≤ length present
      → out ≡ joined (length all)
      (λ i. row_through (length points) (λ s. get_or points s 0) rows w (get_or all i 0))
      → out ≡ restored
  all_copied points out same enough made =
      made
      ∙ ap
      (λ (ps : List ℕ). joined (length all)
      (λ i. row_through (length ps) (λ s. get_or ps s 0) rows w (get_or all i 0)))
      same
      ∙ ap
      (λ (n : ℕ). joined (length all)
      (λ i. row_through n (λ s. get_or (take k present) s 0) rows w (get_or all i 0)))
      (length-take-le k present enough)
      ∙ every

  -- where a plan rebuilds them
  pub all_rebuilt : (m : ℕ) (plan : Shape) (out : List ℕ)
      → plan ≡ record { k = k; m = m; points = take k present }
      → out ≡ joined (length all)
      (λ i. row_through plan.k (λ s. get_or plan.points s 0) rows w (get_or all i 0))
      → out ≡ restored
  all_rebuilt m plan out is made =
      made
      ∙ ap
      (λ (p : Shape). joined (length all)
      (λ i. row_through p.k (λ s. get_or p.points s 0) rows w (get_or all i 0)))
      is
      ∙ every

  -- where the rows are those of a codeword
  pub restored_codeword : (m : ℕ) (originals : List ℕ) → k + m ≤ 65535 → w % 2 ≡ 0
      → AreSound (k + m) present → k ≤ length present
      → ((s : ℕ) → s < length present → get_or present s 0 < 2 ^ 16)
      → rows ≡ joined k (λ s. code_row k originals w (get_or (take k present) s 0))
      → restored ≡ joined k (λ i. code_row k originals w i)
  restored_codeword m originals few even sound enough fit own =
      joined_same k _ _
      (λ i _. row_of_codeword k (λ s. get_or (take k present) s 0) rows originals w i
      (omega (arith, few)) (AreSound-points (k + m) k present sound enough fit) even own)
