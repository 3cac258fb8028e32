use Rattle.std.proofs.Common.{◌<◌, ◌∙◌, length, drop, ap, sym, arith, Some}
use Rattle.std.proofs.lemmas.List.{drop_all, length-drop}
use Rattle.cw_tree.specs.Tree.{last_digest}
use Rattle.cw_tree.proofs.WayLaws.{goes_up, goes_off, goes_home, goes_over, root_over_top}
use Rattle.cw_tree.proofs.bmt.way.root_above.Goals as goal

pub up-preserved : goal.up-preserved
up-preserved g c =
    let hash = g.H.Hasher.digest_of in
    let content = g.H.Digest.Digest.content in
    record {
      within = c.in-Some.ensures.within;
      on_way =
          goes_up hash content c.args.count c.up.width c.up.at c.up.node _ _ _ _
          c.above_both-node.result _ (last_digest hash c.above_both-node.result)
          (omega (arith, c.up-test.true)) c.in-Some.ensures.value c.above_both-node.ensures
          (λ texts. ap (λ d. last_digest hash d texts) (sym c.above_both-node.ensures))
          c.up.invariant.on_way;
    }

pub returns-in_default : goal.returns-in_default
returns-in_default g c =
    goes_off _ _ c.args.count c.up.width c.up.at c.up.node _ _ _ (omega (arith, c.up-test.true))
    c.in_default.ensures.value c.up.invariant.on_way

pub returns-then-used-siblings : goal.returns-then-used-siblings
returns-then-used-siblings g c =
    let hash = g.H.Hasher.digest_of in
    let content = g.H.Digest.Digest.content in
    ap Some (c.rooted_of.ensures ∙ root_over_top hash content c.args.count c.up.node)
    ∙ goes_home hash content c.args.count c.up.width c.up.at c.up.node
    (drop c.up.used c.args.siblings.now) _ _ (omega (arith, c.up-test.false))
    (drop_all c.up.used c.args.siblings.now (omega (arith, c.if-used-siblings.true)))
    c.up.invariant.on_way

pub returns-else-used-siblings : goal.returns-else-used-siblings
returns-else-used-siblings g c =
    let less : c.up.used < length c.args.siblings.now =
    grind (arith, c.if-used-siblings.false, c.up.invariant.within) in
    goes_over _ _ c.args.count c.up.width c.up.at c.up.node (drop c.up.used c.args.siblings.now) _ _
    (omega (arith, c.up-test.false))
    (omega (arith, less, length-drop c.up.used c.args.siblings.now)) c.up.invariant.on_way
