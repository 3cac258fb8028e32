use Rattle.std.proofs.Common.{◌≡◌, ℕ, ◌+◌, ◌*◌, ◌<◌, ◌≤◌, length}
use Rattle.rs_code.specs.Columns.{entry}
use Rattle.rs_code.specs.Rows.{symbol}
use Rattle.rs_code.proofs.transformed.store_row.Given as goal

-- the columns so far are written
abbrev pub invariant-loop-column : goal.invariant-loop-column
invariant-loop-column l = record {
  long : length l.out ≡ length l.fn.out;
  written : (j : ℕ) → j < l.column
      → symbol l.out l.window.wide l.row (l.window.start + j) ≡ entry l.symbols l.window.n l.from j;
  others : (i j : ℕ) → 2 * (j + 1) ≤ l.window.wide
      → (i ≡ l.row → l.window.start ≤ j → j < l.window.start + l.column → ⊥) →
      symbol l.out l.window.wide i j ≡ symbol l.fn.out l.window.wide i j;
}
