use Rattle.std.proofs.Common.{◌≡◌, length}
use Rattle.cw_archive.specs.Archived.{within_limit}
use Rattle.cw_archive.specs.Showing.{HasNewest}
use Rattle.cw_archive.proofs.archive.make_room.Given as goal

-- the newest is there, and as much stays of what is left as of all
abbrev pub invariant-loop-used : goal.invariant-loop-used
invariant-loop-used l =
    HasNewest l.width l.used l.kept × (within_limit l.limit l.kept ≡ within_limit l.limit l.fn.kept)

abbrev pub decreases-loop-used : goal.decreases-loop-used
decreases-loop-used l = length l.kept
