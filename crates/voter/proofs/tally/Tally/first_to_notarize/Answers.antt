use Rattle.std.proofs.Common.{◌∙◌, ap, find, rules, subst, sym, tests}
use Rattle.std.proofs.lemmas.Iterator.{YieldsList-from_slice}
use Rattle.std.proofs.lemmas.Iterator.Adapters.{option_map_id}
use Rattle.std.proofs.lemmas.Iterator.Consumers.{YieldsList-from_copied}
use Rattle.std.proofs.lemmas.Iterator.Search.{find_from_yields_List}
use Rattle.voter.specs.Known.{Known}
use Rattle.voter.specs.Owing.{owes_notarize}
use Rattle.voter.specs.Waiting.{AreWaiting}
use Rattle.voter.proofs.Undone.{listed_here, notarize_here}
use Rattle.voter.proofs.tally.Tally.first_to_notarize.Goals as goal

pub returns : goal.returns
returns g c =
    let t = c.args.self.now in
    let w = c.self.inside.waiting in
    let are : AreWaiting t w =
    subst (λ (k : Known). AreWaiting k w) c.self.view_is c.self.invariant.waiting in
    sym (option_map_id _)
    ∙ (find_from_yields_List (owes_notarize g.H.Hasher.digest_of t) _ _ _ c.find.ensures.ran
    (YieldsList-from_copied (YieldsList-from_slice c.of.result.now (cc)))
    (λ x b q k. search (rules, tests))
    ∙ ap (find (owes_notarize g.H.Hasher.digest_of t))
    (c.of.ensures
    ∙ listed_here t w.views.by_view.entries c.epoch-epoch.result c.view.result
    c.epoch-epoch.ensures c.view.ensures)
    ∙ notarize_here t w.views.by_view.entries are.in_views g.H.Hasher.digest_of)
