use Rattle.cw_base.proofs.Ends.{end_of_end}
use Rattle.cw_types.proofs.message.read_ask.Goals as goal

pub returns-in_err-commitment-clause-place : goal.returns-in_err-commitment-clause-place
returns-in_err-commitment-clause-place c =
    end_of_end c.be16.ensures.place c.read.ensures.place

pub returns-clause-place : goal.returns-clause-place
returns-clause-place c =
    end_of_end c.be16.ensures.place c.read.ensures.place
