use Rattle.std.proofs.Common.{◌∙◌, sym, ap, arith}
use Rattle.cw_tree.proofs.WayLaws.{root_from, root_by-from, root_by-none}
use Rattle.cw_tree.proofs.bmt.way.root_led_to.Goals as goal

pub returns-then-index-count : goal.returns-then-index-count
returns-then-index-count g c =
    sym
    (root_by-none g.H.Hasher.digest_of g.H.Digest.Digest.content c.args.count
    c.args.siblings.now c.args.index c.args.digest.now
    (omega (arith, c.if-index-count.true)))

pub returns : goal.returns
returns g c =
    let hash = g.H.Hasher.digest_of in
    let content = g.H.Digest.Digest.content in
    c.root_above.ensures
    ∙ ap
    (λ x. root_from hash content c.args.count c.args.count c.args.count c.args.index x
    c.args.siblings.now)
    c.leaf_of.ensures
    ∙ sym
    (root_by-from hash content c.args.count c.args.siblings.now c.args.index c.args.digest.now
    (omega (arith, c.if-index-count.false)))
