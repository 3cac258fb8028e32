use Rattle.std.proofs.Common.{◌≡◌, map, take}
use Rattle.cw_types.specs.Encoding.{block_bytes}
use Rattle.hail_picture.proofs.drawing.digests_of.Given as goal

abbrev pub invariant-loop-block : goal.invariant-loop-block
invariant-loop-block g l =
    l.digests.items
    ≡ map (λ b. g.H.Hasher.digest_of (block_bytes b)) (take l.block-index l.chain)
