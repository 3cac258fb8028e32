use Rattle.cw_coding.specs.Clash.{AreAlike}
use Rattle.cw_coding.proofs.clash.first_difference.Given as goal

abbrev pub invariant-loop-i : goal.invariant-loop-i
invariant-loop-i g l = AreAlike l.i l.ours l.theirs
