use Rattle.std.proofs.Common.{◌≡◌, ◌++◌, ◌-◌, length, drop}
use Rattle.cw_tree.specs.Tree.{paired}
use Rattle.cw_tree.proofs.bmt.tree.pair_up.Given as goal

abbrev pub invariant-pairs : goal.invariant-pairs
invariant-pairs g l =
    l.next ++ paired g.H.Hasher.digest_of g.H.Digest.Digest.content (drop l.at l.level)
    ≡ paired g.H.Hasher.digest_of g.H.Digest.Digest.content l.level

abbrev pub decreases-pairs : goal.decreases-pairs
decreases-pairs g l = length l.level - l.at
