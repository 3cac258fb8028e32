use Rattle.cw_tree.proofs.TreeLaws.{leaves_more}
use Rattle.cw_tree.proofs.bmt.tree.leaves_of.Goals as goal

pub loop-i-preserved : goal.loop-i-preserved
loop-i-preserved g c =
    leaves_more g.H.Hasher.digest_of g.H.Digest.Digest.content c.args.digests.now c.loop-i.i
    c.index-digests-i.result _ _ _
    c.loop-i-test.true c.index-digests-i.is c.loop-i.invariant
    (rw c.leaf_of.ensures at c.in_ok-push.ensures.ok)
