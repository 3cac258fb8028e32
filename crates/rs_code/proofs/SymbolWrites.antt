-- Rows whose symbols are written one at a time.
use Rattle.std.proofs.Common.{◌≡◌, ◌≢◌, ℕ, suc, ◌+◌, ◌*◌, ◌/◌, ◌%◌, ◌<◌, ◌≤◌, List, length, set, get_or, sym, ap, ap₂, ◌∙◌, arith, mul-le-mul_right, ⊎_elim, get_or-set_same, get_or-set_other, div-add-mod'}
use Rattle.std.proofs.lemmas.Bool.{cases_eq, cases_lt}
use Rattle.std.proofs.lemmas.List.{length-set}
use Rattle.rs_code.specs.Rows.{symbol, symbol_bytes, joined, AreRows}
use Rattle.rs_code.proofs.RowBytes.{symbol_bytes_same, joined_same}
use Rattle.rs_code.proofs.RowLaws.{bytes_of_symbols, joined_rows}

-- places in different rows are different
rows_apart : (width r s a b : ℕ) → r ≢ s → a < width → b < width → r * width + a ≢ s * width + b
rows_apart width r s a b other ha hb = λ e.
    ⊎_elim {C = ⊥}
    (λ low.
    (let whole : suc r * width ≤ s * width = mul-le-mul_right width low in
    absurd (omega (arith, e, whole))))
    (λ high.
    (let less : s < r = omega (arith, high, other) in
    let whole : suc s * width ≤ r * width = mul-le-mul_right width less in
    absurd (omega (arith, e, whole))))
    (cases_lt r s)

-- different places are different
pub places_apart : (width r s a b : ℕ) → a < width → b < width → (r ≡ s → a ≡ b → ⊥)
    → r * width + a ≢ s * width + b
places_apart width r s a b ha hb other = λ e.
    ⊎_elim {C = ⊥}
    (λ same. other same
    (let row : r * width ≡ s * width = ap (λ (n : ℕ). n * width) same in
    let place : a ≡ b = omega (arith, e, row) in place))
    (λ n. rows_apart width r s a b n ha hb e)
    (cases_eq r s)

module _ (rows : List ℕ) (width r j v : ℕ) where
  abbrev at : ℕ
  at = r * width + 2 * j

  abbrev once : List ℕ
  once = set rows at (v / 256)

  abbrev twice : List ℕ
  twice = set once (at + 1) (v % 256)

  -- the symbol that was written
  pub written : at + 1 < length rows → symbol twice width r j ≡ v
  unfolding symbol
  written room =
      let apart : at ≢ at + 1 = λ e. absurd (omega (arith, e)) in
      ap₂ (λ (x y : ℕ). x * 256 + y)
      (get_or-set_other once (at + 1) at (v % 256) 0 apart
      ∙ get_or-set_same rows at (v / 256) 0 (omega arith))
      (get_or-set_same once (at + 1) (v % 256) 0 (omega (arith, length-set rows at (v / 256))))
      ∙ div-add-mod' v 256

  stays : (place : ℕ) → place ≢ at → place ≢ at + 1 → get_or twice place 0 ≡ get_or rows place 0
  stays place first second =
      get_or-set_other once (at + 1) place (v % 256) 0 second
      ∙ get_or-set_other rows at place (v / 256) 0 first

  -- the others
  pub not_written : (s t : ℕ) → 2 * (j + 1) ≤ width → 2 * (t + 1) ≤ width → (s ≡ r → t ≡ j → ⊥) →
      symbol twice width s t ≡ symbol rows width s t
  unfolding symbol
  not_written s t hj ht other =
      let away : (p q : ℕ) → p < 2 → q < 2 → s * width + (2 * t + p) ≢ r * width + (2 * j + q) =
      λ p q hp hq. places_apart width s r (2 * t + p) (2 * j + q) (omega arith) (omega arith)
      (λ same e. other same (omega (arith, e))) in
      ap₂ (λ (x y : ℕ). x * 256 + y)
      (stays (s * width + 2 * t) (λ e. away 0 0 (omega arith) (omega arith) (omega (arith, e)))
      (λ e. away 0 1 (omega arith) (omega arith) (omega (arith, e))))
      (stays (s * width + 2 * t + 1) (λ e. away 1 0 (omega arith) (omega arith) (omega (arith, e)))
      (λ e. away 1 1 (omega arith) (omega arith) (omega (arith, e))))

-- rows are the bytes of their symbols
pub rows_of_symbols : (n width : ℕ) (rows : List ℕ) (value : ℕ → ℕ → ℕ) → AreRows n width rows →
    ((i j : ℕ) → i < n → j < width / 2 → symbol rows width i j ≡ value i j) →
    rows ≡ joined n (λ i. symbol_bytes (width / 2) (λ j. value i j))
rows_of_symbols n width rows value are each =
    sym (joined_rows n width rows are.long)
    ∙ joined_same n _ _
    (λ i h. sym (bytes_of_symbols n width rows are i h)
    ∙ symbol_bytes_same (width / 2) _ _ (λ j l. each i j h l))
