use Rattle.std.proofs.Common.{◌≡◌, ℕ, ◌+◌, ◌*◌, ◌<◌, ◌≤◌, length}
use Rattle.rs_code.specs.Columns.{entry}
use Rattle.rs_code.specs.Rows.{symbol}
use Rattle.rs_code.proofs.transformed.store.Given as goal

-- the rows so far are written
abbrev pub invariant-loop-r : goal.invariant-loop-r
invariant-loop-r l = record {
  long : length l.out ≡ length l.fn.out;
  written : (r j : ℕ) → r < l.r → j < l.window.n
      → symbol l.out l.window.wide (l.row + r) (l.window.start + j) ≡ entry l.symbols l.window.n (l.from + r) j;
  others : (i j : ℕ) → 2 * (j + 1) ≤ l.window.wide
      → (l.row ≤ i → i < l.row + l.r → l.window.start ≤ j → j < l.window.start + l.window.n → ⊥) →
      symbol l.out l.window.wide i j ≡ symbol l.fn.out l.window.wide i j;
}
