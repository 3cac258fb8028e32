use Rattle.std.proofs.Common.{◌≡◌, length}
use Rattle.cw_base.specs.Rows.{row_of, listed}
use Rattle.cw_tree.specs.Tree.{path_of}
use Rattle.cw_coding.proofs.encoding.cut.Given as goal

abbrev pub invariant-loop-i : goal.invariant-loop-i
invariant-loop-i g l =
    l.chunks.items ≡ listed l.i (λ i. record {
      shard = row_of l.rows l.width i;
      index = i;
      leaf_count = length l.tree;
      siblings = path_of g.H.Hasher.digest_of g.H.Digest.Digest.content i l.tree;
    })
