use Rattle.std.proofs.Common.{◌≡◌, ℕ, ◌+◌, ◌*◌, ◌/◌, ◌<◌, length}
use Rattle.rs_code.specs.Codeword.{codeword}
use Rattle.rs_code.specs.Rows.{symbol}
use Rattle.rs_code.proofs.transformed.fill_transformed.Given as goal

-- the columns of the blocks so far are written
abbrev pub invariant-loop-block : goal.invariant-loop-block
invariant-loop-block l = record {
  long : length l.out ≡ length l.fn.out;
  written : (i j : ℕ) → i < l.m → j < l.each * l.block → j < l.wide / 2
      → symbol l.out l.wide i j
      ≡ codeword l.k (λ s. symbol l.columns.rows.now l.columns.width s (l.columns.first + j)) (l.k + i);
}
