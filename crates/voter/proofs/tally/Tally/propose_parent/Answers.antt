use Rattle.std.proofs.Common.{◌∙◌, None, Some, min, ap, arith, sym}
use Rattle.cw_types.specs.Commit.{genesis_commitment}
use Rattle.voter.proofs.ParentOver.{kept_over, kept_under, over_last, over_past}
use Rattle.voter.proofs.tally.Tally.propose_parent.Goals as goal

pub returns-then-top-from : goal.returns-then-top-from
returns-then-top-from g c =
    over_past (genesis_commitment g.H.Hasher.digest_of) c.args.self.now.notes c.args.epoch
    c.args.below c.min-top.result c.nullified_from-from.result
    (c.min-top.ensures ∙ ap (min c.args.below) c.view.ensures) c.nullified_from-from.ensures
    c.if-top-from.true

pub returns-then-view-saturating_sub : goal.returns-then-view-saturating_sub
returns-then-view-saturating_sub g c =
    kept_under c.nullified_from-from.result c.in-Some.view c.in-Some.payload
    (let last = c.saturating_sub.ensures in
    let under = c.if-view-saturating_sub.true in
    omega arith)
    ∙ over_last (genesis_commitment g.H.Hasher.digest_of) c.args.self.now.notes c.args.epoch
    c.args.below c.min-top.result c.nullified_from-from.result
    (c.min-top.ensures ∙ ap (min c.args.below) c.view.ensures) c.nullified_from-from.ensures
    c.if-top-from.false (Some (c.in-Some.view, c.in-Some.payload))
    (sym c.in-Some.is ∙ c.settled_below.ensures)

pub returns-else-view-saturating_sub : goal.returns-else-view-saturating_sub
returns-else-view-saturating_sub g c =
    kept_over c.nullified_from-from.result c.in-Some.view c.in-Some.payload
    (let last = c.saturating_sub.ensures in
    let over = c.if-view-saturating_sub.false in
    omega arith)
    ∙ over_last (genesis_commitment g.H.Hasher.digest_of) c.args.self.now.notes c.args.epoch
    c.args.below c.min-top.result c.nullified_from-from.result
    (c.min-top.ensures ∙ ap (min c.args.below) c.view.ensures) c.nullified_from-from.ensures
    c.if-top-from.false (Some (c.in-Some.view, c.in-Some.payload))
    (sym c.in-Some.is ∙ c.settled_below.ensures)

pub returns-in-None : goal.returns-in-None
returns-in-None g c =
    over_last (genesis_commitment g.H.Hasher.digest_of) c.args.self.now.notes c.args.epoch
    c.args.below c.min-top.result c.nullified_from-from.result
    (c.min-top.ensures ∙ ap (min c.args.below) c.view.ensures) c.nullified_from-from.ensures
    c.if-top-from.false None (sym c.in-None.is ∙ c.settled_below.ensures)
