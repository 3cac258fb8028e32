use Rattle.std.proofs.Common.{◌∙◌, arith}
use Rattle.cw_coding.proofs.EncodingLaws.{digests_are, digests_count}
use Rattle.cw_coding.proofs.encoding.with_tree.Goals as goal

pub tree_of-requires-clause-some : goal.tree_of-requires-clause-some
tree_of-requires-clause-some g c κs within =
    let count =
    digests_count g.H.Hasher.digest_of c.args.config.now.minimum c.args.config.now.extra
    c.args.text.now _ c.args.digests.items c.requires.some c.requires.rows c.requires.digests in
    omega (arith, count, c.requires.some)

pub tree_of-requires-clause-few : goal.tree_of-requires-clause-few
tree_of-requires-clause-few g c κs within =
    let count =
    digests_count g.H.Hasher.digest_of c.args.config.now.minimum c.args.config.now.extra
    c.args.text.now _ c.args.digests.items c.requires.some c.requires.rows c.requires.digests in
    omega (arith, count, c.requires.total)

pub returns-clause-digests : goal.returns-clause-digests
returns-clause-digests g c =
    c.in_ok-tree.ensures
    ∙ digests_are g.H.Hasher.digest_of c.args.config.now.minimum c.args.config.now.extra
    c.args.text.now _ c.args.digests.items c.requires.some c.requires.rows c.requires.digests
