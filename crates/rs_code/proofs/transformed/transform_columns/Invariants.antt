use Rattle.std.proofs.Common.{◌≡◌, ℕ, ◌+◌, ◌*◌, ◌^◌, ◌<◌, ◌≤◌, length}
use Rattle.rs_code.specs.Columns.{entry}
use Rattle.rs_code.specs.Rows.{symbol}
use Rattle.rs_code.specs.Transform.{combined}
use Rattle.rs_code.proofs.transformed.transform_columns.Given as goal

-- the rows of the blocks so far are written
abbrev pub invariant-loop-block : goal.invariant-loop-block
invariant-loop-block l = record {
  long : length l.out ≡ length l.fn.out;
  values : length l.values ≡ 2 ^ l.setting.t * l.window.n;
  written : (i j : ℕ) → i < l.setting.m → l.setting.k + i < l.block * 2 ^ l.setting.t → j < l.window.n
      → symbol l.out l.window.wide i (l.window.start + j)
      ≡ combined l.setting.t (λ r. entry l.coefficients l.window.n r j) (l.setting.k + i);
  others : (i j : ℕ) → 2 * (j + 1) ≤ l.window.wide → (l.window.start ≤ j → j < l.window.start + l.window.n → ⊥) →
      symbol l.out l.window.wide i j ≡ symbol l.fn.out l.window.wide i j;
}
