use Rattle.std.proofs.Common.{◌≡◌, ℕ, ◌+◌, ◌*◌, ◌/◌, ◌<◌, length, get_or}
use Rattle.rs_code.specs.Codeword.{sum_below}
use Rattle.rs_code.specs.Coefficients.{lane}
use Rattle.rs_code.specs.Field.{times}
use Rattle.rs_code.specs.Rows.{symbol}
use Rattle.rs_code.specs.Symbols.{symbol_in}
use Rattle.rs_code.proofs.striped.fill_group.Given as goal

-- the blocks so far are written
abbrev pub invariant-loop-block : goal.invariant-loop-block
invariant-loop-block l = record {
  count : length l.out ≡ length l.fn.out;
  bytes : (i : ℕ) → get_or l.out i 0 < 256;
  before : (i j : ℕ) → i < l.done → j < l.wide / 2
      → symbol l.out l.wide i j ≡ symbol l.fn.out l.wide i j;
  written : (p j : ℕ) → p < l.lanes → j < l.total → j < 8192 * l.block
      → symbol l.out l.wide (l.done + p) j
      ≡ sum_below (length l.factors.items)
      (λ s. times (symbol_in l.columns s j) (lane l.factors.items s p));
}
