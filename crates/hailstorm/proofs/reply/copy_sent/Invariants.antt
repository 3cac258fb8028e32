use Rattle.std.proofs.Common.{◌≡◌, take}
use Rattle.hailstorm.proofs.reply.copy_sent.Given as goal

-- those so far
abbrev pub invariant-loop-one : goal.invariant-loop-one
invariant-loop-one l = l.copies ≡ take l.one-index l.sent
