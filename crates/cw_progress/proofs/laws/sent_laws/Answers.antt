use Rattle.std.proofs.Common.{refl}
use Rattle.cw_types.specs.declared.message.Message.{Message}
use Rattle.cw_types.specs.declared.note.Note.{Note}
use Rattle.cw_progress.proofs.Noted.{missing_asked, noted_sent}
use Rattle.cw_progress.proofs.Passed.{own_passed}
use Rattle.cw_progress.proofs.Valid.{noted_valid}
use Rattle.cw_progress.proofs.laws.sent_laws.Goals as goal

pub returns-clause-votes : goal.returns-clause-votes
returns-clause-votes c r script w cluster reach i m at live v h =
    noted_sent r script w cluster reach i m at live (Note.Vote v) (Message.Vote i v) refl h

pub returns-clause-certificates : goal.returns-clause-certificates
returns-clause-certificates c r script w cluster reach i m at live s h =
    noted_sent r script w cluster reach i m at live (Note.Cert s) (Message.Cert s) refl h

pub returns-clause-valid : goal.returns-clause-valid
returns-clause-valid c = noted_valid

pub returns-clause-asked : goal.returns-clause-asked
returns-clause-asked c = missing_asked

pub returns-clause-passed : goal.returns-clause-passed
returns-clause-passed c r script w none = own_passed r script none w
