use Rattle.std.proofs.Common.{◌-◌}
use Rattle.cw_coding.proofs.Heights.{Rises}
use Rattle.cw_coding.proofs.sizes.height_of.Given as goal

abbrev pub invariant-up : goal.invariant-up
invariant-up l = Rises l.leaves l.room l.height

abbrev pub decreases-up : goal.decreases-up
decreases-up l = 17 - l.height
