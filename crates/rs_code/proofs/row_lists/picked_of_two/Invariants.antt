use Rattle.std.proofs.Common.{◌≡◌, ◌++◌, get_or}
use Rattle.cw_base.specs.Rows.{row_of}
use Rattle.rs_code.specs.Rows.{joined}
use Rattle.rs_code.proofs.row_lists.picked_of_two.Given as goal

-- the rows so far
abbrev pub invariant-loop-i : goal.invariant-loop-i
invariant-loop-i l =
    l.picked.items ≡ joined l.i (λ i. row_of (l.first ++ l.second) l.width (get_or l.places i 0))
