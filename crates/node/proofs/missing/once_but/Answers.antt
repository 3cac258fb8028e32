use Rattle.std.proofs.Common.{◌∙◌, ◌∷◌, [], ap, sym}
use Rattle.std.proofs.lemmas.Bool.{not-true}
use Rattle.cw_rules.specs.Sends.{once}
use Rattle.node.proofs.Once.{kept_once, not_false, on_false, passed_over}
use Rattle.node.proofs.missing.once_but.Goals as goal
use Rattle.node.proofs.missing.once_but.Goals.{else-branch, then-branch+in_ok-push}

pub loop-commitment-preserved : goal.loop-commitment-preserved
loop-commitment-preserved c =
    let cs = c.args.commitments.now in
    let i = c.loop-commitment.commitment-index in
    let x = c.commitment-item.result in
    let old = c.loop-commitment.seen.keys in
    let new = c.insert-in-loop-commitment.new.self.keys in
    let less = c.loop-commitment-test.true in
    let at = c.commitment-item.is in
    let each = c.loop-commitment.each.items in
    let before = c.loop-commitment.invariant in
    elim c.if-branch.branch [
      | then-branch+in_ok-push w ↦ kept_once old new cs i x less at each (once (c.args.but ∷ []) cs)
          before
          (not-true _ (sym c.in_ok-insert-2.ensures.added ∙ w.if-branch.true))
          c.in_ok-insert-2.ensures.updates.0 c.if-branch.each.items
          (ap (λ v. v.items) w.each-is ∙ w.in_ok-push.ensures.items)
      | else-branch w ↦ passed_over old new cs i x less at each (once (c.args.but ∷ []) cs) before
          (not_false _ (sym c.in_ok-insert-2.ensures.added ∙ w.if-branch.false))
          (on_false _ c.in_ok-insert-2.ensures.unchanged w.if-branch.false) c.if-branch.each.items
          (ap (λ v. v.items) w.each-is)
    ]
