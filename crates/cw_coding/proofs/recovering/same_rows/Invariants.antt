use Rattle.std.proofs.Common.{◌≡◌, ℕ, ◌<◌, get_or}
use Rattle.cw_base.specs.Rows.{row_of}
use Rattle.cw_coding.proofs.recovering.same_rows.Given as goal

abbrev pub invariant-loop-s : goal.invariant-loop-s
invariant-loop-s l =
    (s : ℕ) → s < l.s → row_of l.given l.width s ≡ row_of l.rows l.width (get_or l.indices s 0)
