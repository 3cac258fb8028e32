use Rattle.std.proofs.Common.{◌≡◌, ◌++◌}
use Rattle.rs_code.specs.Field.{times}
use Rattle.rs_code.specs.Rows.{symbol, symbol_bytes}
use Rattle.rs_code.proofs.row_lists.push_scaled.Given as goal

-- the symbols so far
abbrev pub invariant-loop-j : goal.invariant-loop-j
invariant-loop-j l =
    l.out.items ≡ l.fn.out.items ++ symbol_bytes l.j (λ j. times (symbol l.row 0 0 j) l.factor)
