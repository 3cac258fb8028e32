use Rattle.std.proofs.Common.{◌≡◌, ◌≢◌, ℕ, ◌+◌, ◌<◌, length}
use Rattle.rs_code.specs.Columns.{entry}
use Rattle.rs_code.specs.Rows.{symbol}
use Rattle.rs_code.proofs.transformed.load_row.Given as goal

-- the columns so far are read
abbrev pub invariant-loop-column : goal.invariant-loop-column
invariant-loop-column l = record {
  count : length l.symbols ≡ length l.fn.symbols;
  read : (j : ℕ) → j < l.column
      → entry l.symbols l.window.n l.row j ≡ symbol l.rows l.window.width l.row (l.window.from + j);
  others : (i j : ℕ) → i ≢ l.row → j < l.window.n → entry l.symbols l.window.n i j ≡ entry l.fn.symbols l.window.n i j;
}
