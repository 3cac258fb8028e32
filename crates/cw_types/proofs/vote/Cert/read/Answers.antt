use Rattle.cw_base.proofs.Ends.{end_of_end}
use Rattle.cw_types.proofs.vote.Cert.read.Goals as goal

pub returns-in-Ok-clause-place : goal.returns-in-Ok-clause-place
returns-in-Ok-clause-place c =
    end_of_end c.read.ensures.place c.read_signed.ensures.place

pub returns-in-Err-clause-place : goal.returns-in-Err-clause-place
returns-in-Err-clause-place c =
    end_of_end c.read.ensures.place c.read_signed.ensures.place
