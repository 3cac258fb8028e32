use Rattle.std.proofs.Common.{◌≡◌, ℕ, ◌+◌, ◌<◌, ◌≤◌, length}
use Rattle.rs_code.specs.Columns.{entry}
use Rattle.rs_code.specs.Rows.{symbol}
use Rattle.rs_code.proofs.transformed.load.Given as goal

-- the rows so far are read
abbrev pub invariant-loop-row : goal.invariant-loop-row
invariant-loop-row l = record {
  count : length l.symbols ≡ length l.fn.symbols;
  read : (i j : ℕ) → i < l.row → j < l.window.n
      → entry l.symbols l.window.n i j ≡ symbol l.rows l.window.width i (l.window.from + j);
  others : (i j : ℕ) → l.row ≤ i → j < l.window.n → entry l.symbols l.window.n i j ≡ entry l.fn.symbols l.window.n i j;
}
