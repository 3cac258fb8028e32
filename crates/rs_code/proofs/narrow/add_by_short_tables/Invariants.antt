use Rattle.std.proofs.Common.{◌≡◌, ℕ, ◌+◌, ◌*◌, ◌/◌, ◌%◌, ◌<◌, ◌≤◌, get_or, bit_xor}
use Rattle.rs_code.specs.Coefficients.{lane}
use Rattle.rs_code.proofs.narrow.add_by_short_tables.Given as goal

-- the sums so far are done, the others are as they were
abbrev pub invariant-loop-column : goal.invariant-loop-column
invariant-loop-column l = record {
  done : (j i : ℕ) → j < l.column → i < 8 → lane l.sums j i ≡ bit_xor (lane l.fn.sums j i)
      (bit_xor (lane l.low (get_or l.rows (l.start + 2 * j) 0 % 16) i)
      (lane l.high (get_or l.rows (l.start + 2 * j) 0 / 16) i));
  rest : (j i : ℕ) → l.column ≤ j → lane l.sums j i ≡ lane l.fn.sums j i;
}
