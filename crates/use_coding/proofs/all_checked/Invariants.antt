use Rattle.std.proofs.Common.{◌≡◌, map, take}
use Rattle.use_coding.specs.Checked.{checked_under}
use Rattle.use_coding.proofs.all_checked.Given as goal

abbrev pub invariant-loop-chunk : goal.invariant-loop-chunk
invariant-loop-chunk l = l.all.items ≡ map (checked_under l.root) (take l.chunk-index l.chunks)
