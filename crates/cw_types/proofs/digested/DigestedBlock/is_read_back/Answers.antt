use Rattle.cw_types.proofs.FormatLaws.{block_again}
use Rattle.cw_types.proofs.digested.DigestedBlock.is_read_back.Goals as goal

pub returns : goal.returns
returns g c = rw (← c.self.view_is) (block_again c.self.inside.block c.block_fits.ensures)
