use Rattle.cw_base.proofs.Ends.{end_of_end}
use Rattle.cw_types.proofs.block.read_block.Goals as goal

pub returns-in_err-parent-clause-place : goal.returns-in_err-parent-clause-place
returns-in_err-parent-clause-place c =
    end_of_end c.read.ensures.place c.read_digest.ensures.place

pub returns-in_err-height-clause-place : goal.returns-in_err-height-clause-place
returns-in_err-height-clause-place c =
    end_of_end (end_of_end c.read.ensures.place c.read_digest.ensures.place)
    c.read_height.ensures.place

pub returns-in_err-payload-clause-place : goal.returns-in_err-payload-clause-place
returns-in_err-payload-clause-place c =
    end_of_end (end_of_end c.read.ensures.place c.read_digest.ensures.place)
    (end_of_end c.read_height.ensures.place c.read_payload.ensures.place)

pub returns-clause-place : goal.returns-clause-place
returns-clause-place c =
    end_of_end (end_of_end c.read.ensures.place c.read_digest.ensures.place)
    (end_of_end c.read_height.ensures.place c.read_payload.ensures.place)
