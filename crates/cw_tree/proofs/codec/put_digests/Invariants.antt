use Rattle.std.proofs.Common.{◌≡◌, ◌++◌, take}
use Rattle.std.specs.List.{flat_map}
use Rattle.cw_tree.proofs.codec.put_digests.Given as goal

abbrev pub invariant-loop-digest : goal.invariant-loop-digest
invariant-loop-digest g l =
    l.out.items ≡ l.fn.out.items ++ flat_map g.D.Digest.content (take l.digest-index l.digests)
