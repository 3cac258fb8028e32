use Rattle.std.proofs.Common.{drop}
use Rattle.cw_tree.specs.Tree.{path_of}
use Rattle.cw_tree.proofs.TreeLaws.{UpTo}
use Rattle.cw_tree.proofs.bmt.tree.Tree.proof.Given as goal

abbrev pub invariant-loop-level : goal.invariant-loop-level
invariant-loop-level g l =
    UpTo g.H.Hasher.digest_of g.H.Digest.Digest.content l.siblings l.at
    (drop l.level-index l.level-items)
    (path_of g.H.Hasher.digest_of g.H.Digest.Digest.content l.fn.index l.fn.self)
