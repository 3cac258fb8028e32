use Rattle.cw_types.proofs.FormatLaws.{block_again, block_found}
use Rattle.cw_types.proofs.laws.blocks_read_back.Goals as goal

pub returns : goal.returns
returns c = record { found = block_found; again = block_again }
