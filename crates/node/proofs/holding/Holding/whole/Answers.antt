use Rattle.std.proofs.Common.{sym, ◌∙◌, ap}
use Rattle.cw_rules.specs.Accepted.{first_some}
use Rattle.node.proofs.Arrivals.{first_whole}
use Rattle.node.specs.Holding.{Holding, rules_of, whole_under}
use Rattle.node.proofs.holding.Holding.whole.Goals as goal

pub returns : goal.returns
returns g c =
    let h = c.args.self.now in
    let all =
    first_whole (rules_of g.H.Hasher.digest_of g.A.Application.accepts h) c.args.commitment.now
    h.arrivals h.shards.kept c.requires.rows c.requires.named in
    let same =
    ap
    (λ (k : Holding g.row.D.Denot g.row.A.Denot). first_some
    (whole_under c.args.commitment.now) k.arrivals)
    c.self.view_is in
    c.whole.ensures ∙ (same ∙ sym all)
