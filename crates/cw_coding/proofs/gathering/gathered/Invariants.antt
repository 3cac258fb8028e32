use Rattle.std.proofs.Common.{◌≡◌, map}
use Rattle.cw_coding.proofs.gathering.gathered.Given as goal

abbrev pub invariant-loop-chunk : goal.invariant-loop-chunk
invariant-loop-chunk g l = l.chunks.items ≡ map (λ chunk. chunk.now) l.yielded
