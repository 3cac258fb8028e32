use Rattle.cw_types.proofs.Sizes.{block_within}
use Rattle.cw_types.proofs.digested.DigestedBoundedBlock.is_bounded.Goals as goal

pub returns : goal.returns
returns g c = rw (← c.self.view_is) (block_within c.self.inside.block c.block_fits.ensures)
