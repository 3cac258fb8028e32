use Rattle.std.proofs.Common.{◌*◌, ◌-◌}
use Rattle.cw_base.proofs.strategy.+fn-map_pieces-join+arg3+map_pieces.Given as goal

abbrev pub decreases-join+arg3 : goal.decreases-join+arg3
decreases-join+arg3 g l = 2 * (l.pieces - l.piece) - 1

abbrev pub decreases-map_pieces : goal.decreases-map_pieces
decreases-map_pieces g l = 2 * (l.pieces - l.piece)
