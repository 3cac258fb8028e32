use Rattle.std.proofs.Common.{◌≡◌, ℕ, ◌+◌, ◌*◌, ◌<◌, ◌≤◌, length}
use Rattle.rs_code.specs.Coefficients.{lane}
use Rattle.rs_code.specs.Rows.{symbol}
use Rattle.rs_code.proofs.pairs.fill_pair_lane.Given as goal

-- the columns so far are written
abbrev pub invariant-loop-column : goal.invariant-loop-column
invariant-loop-column l = record {
  count : length l.rows ≡ length l.fn.rows;
  written : (j : ℕ) → j < l.column
      → symbol l.rows l.width l.row (l.first + j) ≡ lane l.sums j l.place;
  others : (i j : ℕ) → 2 * (j + 1) ≤ l.width
      → (i ≡ l.row → l.first ≤ j → j < l.first + l.column → ⊥) →
      symbol l.rows l.width i j ≡ symbol l.fn.rows l.width i j;
}
