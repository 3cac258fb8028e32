use Rattle.cw_base.proofs.Ends.{end_of_end}
use Rattle.cw_types.proofs.note.read_block_note.Goals as goal

pub returns-in_err-block-clause-place : goal.returns-in_err-block-clause-place
returns-in_err-block-clause-place c =
    end_of_end c.read.ensures.place c.read_block.ensures.place

pub returns-clause-place : goal.returns-clause-place
returns-clause-place c =
    end_of_end c.read.ensures.place c.read_block.ensures.place
