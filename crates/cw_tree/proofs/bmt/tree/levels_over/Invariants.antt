use Rattle.std.proofs.Common.{List, ◌++◌, length}
use Rattle.cw_tree.specs.Tree.{AreLevels, top_within}
use Rattle.cw_tree.proofs.TreeLaws.{LeadsTo}
use Rattle.cw_tree.proofs.bmt.tree.levels_over.Given as goal

abbrev pub invariant-up : goal.invariant-up
invariant-up g l =
    LeadsTo g.H.Hasher.digest_of g.H.Digest.Digest.content l.level
    (top_within g.H.Hasher.digest_of g.H.Digest.Digest.content (length l.fn.leaves) l.fn.leaves)
    × ((ms : List (List _)) → AreLevels g.H.Hasher.digest_of g.H.Digest.Digest.content l.level ms
    → AreLevels g.H.Hasher.digest_of g.H.Digest.Digest.content l.fn.leaves (l.levels ++ ms))

abbrev pub decreases-up : goal.decreases-up
decreases-up g l = length l.level
