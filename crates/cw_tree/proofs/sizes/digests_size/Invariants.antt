use Rattle.std.proofs.Common.{◌≡◌, ◌-◌, ◌^◌, min, length, take}
use Rattle.std.specs.List.{flat_map}
use Rattle.cw_tree.proofs.sizes.digests_size.Given as goal

abbrev pub invariant-loop-digest : goal.invariant-loop-digest
invariant-loop-digest g l =
    l.size ≡ min (length (flat_map g.D.Digest.content (take l.digest-index l.digests))) (2 ^ 64 - 1)
