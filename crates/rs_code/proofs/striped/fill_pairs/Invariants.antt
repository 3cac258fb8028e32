use Rattle.std.proofs.Common.{◌≡◌, ℕ, ◌+◌, ◌*◌, ◌<◌, ◌≤◌, length}
use Rattle.rs_code.specs.Codeword.{sum_below}
use Rattle.rs_code.specs.Coefficients.{lane}
use Rattle.rs_code.specs.Field.{times}
use Rattle.rs_code.specs.Rows.{symbol}
use Rattle.rs_code.specs.Symbols.{symbol_in}
use Rattle.rs_code.proofs.striped.fill_pairs.Given as goal

-- the lanes so far are written
abbrev pub invariant-loop-place : goal.invariant-loop-place
invariant-loop-place l = record {
  count : length l.out ≡ length l.fn.out;
  others : (i j : ℕ) → 2 * (j + 1) ≤ l.area.wide
      → (l.area.done ≤ i → l.area.start ≤ j → j < l.area.start + l.area.count → ⊥)
      → symbol l.out l.area.wide i j ≡ symbol l.fn.out l.area.wide i j;
  written : (p j : ℕ) → p < l.place → j < l.area.count
      → symbol l.out l.area.wide (l.area.done + p) (l.area.start + j)
      ≡ sum_below (length l.factors)
      (λ s. times (symbol_in l.columns s (l.area.start + j)) (lane l.factors s p));
}
