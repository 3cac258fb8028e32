use Rattle.std.proofs.Common.{◌≡◌, ◌∙◌, refl}
use Rattle.cw_base.specs.Rows.{row_of}
use Rattle.cw_tree.specs.Tree.{path_of}
use Rattle.cw_coding.proofs.LayoutLaws.{row_is}
use Rattle.cw_coding.proofs.encoding.cut_one.Goals as goal

pub returns : goal.returns
returns g c =
    let shard : c.in_ok-shard.shard ≡ row_of c.args.rows.now c.args.width c.args.i =
    row_is c.args.rows.now c.in_ok-shard.shard c.args.i c.args.width
    (rw c.from.ensures at c.in_ok-shard.ensures.ok) in
    let path : c.in_ok-proof.proof.siblings
    ≡ path_of g.H.Hasher.digest_of g.H.Digest.Digest.content c.args.i c.args.tree.now =
    rw c.from-2.ensures at c.in_ok-proof.ensures.siblings in
    c.new.ensures ∙ rw (shard, path, c.in_ok-proof.ensures.leaf_count) refl
