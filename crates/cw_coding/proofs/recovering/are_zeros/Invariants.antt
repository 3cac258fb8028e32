use Rattle.std.proofs.Common.{◌≡◌, replicate, take}
use Rattle.cw_coding.proofs.recovering.are_zeros.Given as goal

abbrev pub invariant-loop-i : goal.invariant-loop-i
invariant-loop-i l = take l.i l.bytes ≡ replicate l.i 0
