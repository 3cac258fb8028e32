use Rattle.cw_types.proofs.Sizes.{block_reaches, block_within}
use Rattle.cw_types.proofs.laws.blocks_are_bounded.Goals as goal

pub returns : goal.returns
returns c = record { bound = block_within; reached = block_reaches }
