use Rattle.cw_types.proofs.FormatLaws.{block_found}
use Rattle.cw_types.proofs.digested.DigestedBlock.read_is_written.Goals as goal

pub returns : goal.returns
returns g c text block bytes read = (block_found text block bytes read).0
