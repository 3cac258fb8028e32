use Rattle.std.proofs.Common.{◌∙◌, ap, filter, rules, slice_get, subst, sym, tests}
use Rattle.std.proofs.lemmas.Iterator.{YieldsList-from_slice}
use Rattle.std.proofs.lemmas.Iterator.Adapters.{option_map_id}
use Rattle.std.proofs.lemmas.Iterator.Consumers.{YieldsList-at, YieldsList-from_copied, YieldsList-from_filter, nth_from_yields_List}
use Rattle.voter.specs.Known.{Known}
use Rattle.voter.specs.Owing.{is_votable}
use Rattle.voter.specs.Waiting.{AreWaiting}
use Rattle.voter.proofs.Undone.{listed_here, votable_here}
use Rattle.voter.proofs.tally.Tally.nth_votable.Goals as goal

pub returns : goal.returns
returns g c =
    let t = c.args.self.now in
    let w = c.self.inside.waiting in
    let are : AreWaiting t w =
    subst (λ (k : Known). AreWaiting k w) c.self.view_is c.self.invariant.waiting in
    sym (option_map_id _)
    ∙ (nth_from_yields_List c.nth.result c.nth.new.self c.args.index c.nth.ensures.ran
    (YieldsList-from_filter _ (is_votable t)
    (YieldsList-at c.filter.ensures.source
    (YieldsList-from_copied (YieldsList-from_slice c.of.result.now (cc))))
    c.filter.ensures.closure (λ x r q k. search (rules, tests)))
    ∙ ap (λ ps. slice_get (filter (is_votable t) ps) c.args.index)
    (c.of.ensures
    ∙ listed_here t w.views.by_view.entries c.epoch-epoch.result c.view.result
    c.epoch-epoch.ensures c.view.ensures)
    ∙ ap (λ ps. slice_get ps c.args.index)
    (votable_here t w.views.by_view.entries are.in_views))
