use Rattle.std.proofs.Common.{◌≡◌, ◌++◌, drop}
use Rattle.cw_tree.specs.Tree.{leaves_from}
use Rattle.cw_tree.proofs.bmt.tree.leaves_of.Given as goal

abbrev pub invariant-loop-i : goal.invariant-loop-i
invariant-loop-i g l =
    l.leaves ++ leaves_from g.H.Hasher.digest_of g.H.Digest.Digest.content l.i (drop l.i l.digests)
    ≡ leaves_from g.H.Hasher.digest_of g.H.Digest.Digest.content 0 l.digests
