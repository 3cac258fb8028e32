use Rattle.cw_base.proofs.Ends.{end_of_end}
use Rattle.cw_types.proofs.message.read_ask_height.Goals as goal

pub returns-in_err-height-clause-place : goal.returns-in_err-height-clause-place
returns-in_err-height-clause-place c =
    end_of_end c.be16.ensures.place c.be64.ensures.place

pub returns-clause-place : goal.returns-clause-place
returns-clause-place c =
    end_of_end c.be16.ensures.place c.be64.ensures.place
