use Rattle.std.proofs.Common.{◌≡◌, None, sym, ◌∙◌, ap, option_map, subst, Bor}
use Rattle.cw_types.specs.Block.{Block}
use Rattle.cw_rules.specs.Accepted.{first_some}
use Rattle.cw_rules.specs.Held.{shown_by, whole_of}
use Rattle.cw_rules.specs.Rules.{Rules}
use Rattle.cw_rules.specs.declared.travel.Travel.TheVariants.{Chunked}
use Rattle.node.proofs.Bridges.{as_cut}
use Rattle.node.specs.Holding.{Holding, came_of, cut_rules, shown_under}
use Rattle.node.proofs.holding.Holding.shown_cut.Goals as goal

pub returns-in-None : goal.returns-in-None
returns-in-None g c =
    let h = c.args.self.now in
    let m = c.args.commitment.now in
    let hash = g.H.Hasher.digest_of in
    let accepts = g.A.Application.accepts in
    let rules = as_cut hash accepts h c.requires.cut in
    let none =
    subst (λ (r : Rules). first_some (whole_of r m) (came_of h).parts ≡ None) (sym rules)
    (sym c.whole.ensures ∙ ap (option_map (λ (b : Bor Block). b.now)) c.in-None.is) in
    let law =
    c.shown_by_kept.ensures.shown hash h.shards (cut_rules hash accepts h) (came_of h)
    c.requires.stands.shards m none in
    let same =
    ap (λ (k : Holding g.row.D.Denot g.row.A.Denot). first_some (shown_under m) k.shown)
    c.self.view_is in
    c.under.ensures
    ∙ (same
    ∙ (sym (c.requires.stands.shown m (c.commitment_fits.ensures.config.minimum.0))
    ∙ (sym law ∙ ap (λ (r : Rules). shown_by Chunked r (came_of h) m) rules)))
