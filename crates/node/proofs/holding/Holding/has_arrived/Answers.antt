use Rattle.std.proofs.Common.{sym, ◌∙◌, ap}
use Rattle.std.specs.List.{list_any}
use Rattle.node.proofs.Arrivals.{whole_arrived}
use Rattle.node.specs.Holding.{Holding, is_whole}
use Rattle.node.proofs.holding.Holding.has_arrived.Goals as goal

pub returns : goal.returns
returns g c =
    let h = c.args.self.now in
    let all = whole_arrived c.args.block.now h.arrivals h.shards.kept c.requires.rows in
    let same =
    ap
    (λ (k : Holding g.row.D.Denot g.row.A.Denot). list_any (is_whole c.args.block.now)
    k.arrivals)
    c.self.view_is in
    c.has.ensures ∙ (same ∙ sym all)
