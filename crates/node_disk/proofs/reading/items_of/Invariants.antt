use Rattle.std.proofs.Common.{◌≡◌, map, take}
use Rattle.node_disk.proofs.reading.items_of.Given as goal

abbrev pub invariant-loop-index : goal.invariant-loop-index
invariant-loop-index l = l.items ≡ take l.index (map (λ frame. frame.now) l.frames)
