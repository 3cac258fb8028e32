use Rattle.std.proofs.Common.{◌≡◌, ℕ, ◌<◌, length}
use Rattle.rs_code.specs.Field.{times}
use Rattle.rs_code.specs.Codeword.{sum_below}
use Rattle.rs_code.specs.Coefficients.{lane}
use Rattle.rs_code.specs.Symbols.{symbol_in}
use Rattle.rs_code.proofs.narrow.add_rows.Given as goal

-- the sums over the rows so far
abbrev pub invariant-loop-row : goal.invariant-loop-row
invariant-loop-row l = record {
  count : length l.sums ≡ length l.fn.sums;
  each : ((j i : ℕ) → j < length l.fn.sums → i < 8 → lane l.fn.sums j i ≡ 0) →
      (j i : ℕ) → j < length l.fn.sums → i < 8 → lane l.sums j i
      ≡ sum_below l.row (λ s. times (symbol_in l.columns s j) (lane l.factors s i));
}
