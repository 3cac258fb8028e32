use Rattle.cw_base.proofs.Ends.{end_of_end}
use Rattle.cw_types.proofs.commitment.Commitment.read.Goals as goal

pub returns-in_err-root-clause-place : goal.returns-in_err-root-clause-place
returns-in_err-root-clause-place c =
    end_of_end c.read_digest.ensures.place c.read_digest-2.ensures.place

pub returns-in_err-context-clause-place : goal.returns-in_err-context-clause-place
returns-in_err-context-clause-place c =
    end_of_end (end_of_end c.read_digest.ensures.place c.read_digest-2.ensures.place)
    c.read_digest-3.ensures.place

pub returns-in_err-config-clause-place : goal.returns-in_err-config-clause-place
returns-in_err-config-clause-place c =
    end_of_end (end_of_end c.read_digest.ensures.place c.read_digest-2.ensures.place)
    (end_of_end c.read_digest-3.ensures.place c.read.ensures.place)

pub returns-clause-place : goal.returns-clause-place
returns-clause-place c =
    end_of_end (end_of_end c.read_digest.ensures.place c.read_digest-2.ensures.place)
    (end_of_end c.read_digest-3.ensures.place c.read.ensures.place)
