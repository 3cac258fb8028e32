use Rattle.cw_base.proofs.Ends.{end_of_end}
use Rattle.cw_types.proofs.note.read_cert_note.Goals as goal

pub returns-in_err-cert-clause-place : goal.returns-in_err-cert-clause-place
returns-in_err-cert-clause-place c =
    end_of_end c.read_formed_vote.ensures.place c.read_signed.ensures.place

pub returns-clause-place : goal.returns-clause-place
returns-clause-place c =
    end_of_end c.read_formed_vote.ensures.place c.read_signed.ensures.place
