use Rattle.std.proofs.Common.{arith}
use Rattle.cw_coding.proofs.Heights.{rises, risen}
use Rattle.cw_coding.proofs.sizes.height_of.Goals as goal

pub up-init : goal.up-init
up-init c = record { room_is = omega arith; low = omega arith; below = λ g l. absurd (omega arith) }

pub up-preserved : goal.up-preserved
up-preserved c =
    rises c.args.leaves c.up.room c.up.height c.requires.few c.up-test.true c.up.invariant

pub returns-clause-height : goal.returns-clause-height
returns-clause-height c = risen c.args.leaves c.up.room c.up.height c.up-test.false c.up.invariant
