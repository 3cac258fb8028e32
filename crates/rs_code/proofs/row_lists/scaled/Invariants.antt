use Rattle.std.proofs.Common.{◌≡◌, ◌/◌, get_or}
use Rattle.rs_code.specs.Field.{times}
use Rattle.rs_code.specs.Rows.{symbol, symbol_bytes, joined}
use Rattle.rs_code.proofs.row_lists.scaled.Given as goal

-- the rows so far
abbrev pub invariant-loop-i : goal.invariant-loop-i
invariant-loop-i l =
    l.scaled.items
    ≡ joined l.i (λ i. symbol_bytes (l.width / 2)
    (λ j. times (symbol l.rows l.width i j) (get_or l.factors i 0)))
