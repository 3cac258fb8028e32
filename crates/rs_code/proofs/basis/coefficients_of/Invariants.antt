use Rattle.std.proofs.Common.{◌≡◌, ℕ, ◌<◌, length, get_or}
use Rattle.rs_code.specs.Codeword.{basis}
use Rattle.rs_code.specs.Coefficients.{lane}
use Rattle.rs_code.proofs.basis.coefficients_of.Given as goal

-- the points so far
abbrev pub invariant-loop-s : goal.invariant-loop-s
invariant-loop-s l = record {
  count : length l.values.items ≡ l.s;
  each : (s i : ℕ) → s < l.s → i < 8
      → lane l.values.items s i
      ≡ basis (length l.points) (λ u. get_or l.points u 0) (get_or l.xs i 0) s;
}
