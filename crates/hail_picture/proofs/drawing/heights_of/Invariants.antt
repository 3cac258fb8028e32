use Rattle.std.proofs.Common.{◌≡◌, map, take}
use Rattle.hail_picture.proofs.drawing.heights_of.Given as goal

abbrev pub invariant-loop-block : goal.invariant-loop-block
invariant-loop-block l = l.heights ≡ map (λ h. h.height) (take l.block-index l.handed)
