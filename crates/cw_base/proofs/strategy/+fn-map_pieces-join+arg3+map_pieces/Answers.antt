use Rattle.cw_base.proofs.Mapping.{GivesItems_behind}
use Rattle.cw_base.proofs.strategy.+fn-map_pieces-join+arg3+map_pieces.Goals as goal

pub returns : goal.returns
returns g t c =
    GivesItems_behind g.F.Fn c.args.f.now (λ answers. answers.items) _ c.args.rest.now
    c.split_at.result.0.now c.split_at.result.1.now _ _ c.behind.result c.split_at.ensures.front
    c.split_at.ensures.back c.behind.ensures c.join-own.ensures.first c.join-own.ensures.second
