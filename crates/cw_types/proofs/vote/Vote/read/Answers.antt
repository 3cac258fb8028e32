use Rattle.cw_base.proofs.Ends.{end_of_end}
use Rattle.cw_types.proofs.vote.Vote.read.Goals as goal

pub returns-in-0-clause-place : goal.returns-in-0-clause-place
returns-in-0-clause-place c =
    end_of_end c.u8.ensures.place c.read_notarize.ensures.place

pub returns-in-1-clause-place : goal.returns-in-1-clause-place
returns-in-1-clause-place c =
    end_of_end c.u8.ensures.place c.read_nullify.ensures.place

pub returns-in-2-clause-place : goal.returns-in-2-clause-place
returns-in-2-clause-place c =
    end_of_end c.u8.ensures.place c.read_finalize.ensures.place
