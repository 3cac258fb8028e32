use Rattle.std.proofs.Common.{◌≡◌, ℕ, ◌*◌, ◌<◌, length}
use Rattle.rs_code.specs.Field.{times}
use Rattle.rs_code.specs.Codeword.{sum_below}
use Rattle.rs_code.specs.Coefficients.{lane}
use Rattle.rs_code.specs.Symbols.{symbol_in}
use Rattle.rs_code.proofs.eights.add_row_pairs.Given as goal

-- the sums over the pairs of rows so far
abbrev pub invariant-loop-pair : goal.invariant-loop-pair
invariant-loop-pair l = record {
  count : length l.sums ≡ length l.fn.sums;
  each : ((j i : ℕ) → j < length l.fn.sums → i < 8 → lane l.fn.sums j i ≡ 0) →
      (j i : ℕ) → j < length l.fn.sums → i < 8 → lane l.sums j i
      ≡ sum_below (2 * l.pair)
      (λ s. times (symbol_in l.columns s j) (lane l.factors s i));
}
