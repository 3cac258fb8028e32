use Rattle.std.proofs.Common.{arith, length}
use Rattle.cw_base.proofs.Runs.{run_first}
use Rattle.cw_base.proofs.strategy.Strategy.map.Goals as goal

-- the first piece starts at the first item
pub map_pieces-requires-clause-from : goal.map_pieces-requires-clause-from
map_pieces-requires-clause-from g c κs within =
    omega (arith, run_first (length c.args.items.now) c.min-pieces.result)
