use Rattle.std.proofs.Common.{◌≡◌, map, take}
use Rattle.run_picture.specs.Told as told
use Rattle.hail_picture.proofs.drawing.said_all.Given as goal

abbrev pub invariant-loop-sent : goal.invariant-loop-sent
invariant-loop-sent l = l.said ≡ map told.said_of (take l.sent-index l.messages)
