use Rattle.std.proofs.Common.{◌≡◌, take}
use Rattle.cw_types.proofs.event.copy_outs.Given as goal

-- those so far
abbrev pub invariant-loop-out : goal.invariant-loop-out
invariant-loop-out l = l.copies ≡ take l.out-index l.outs
