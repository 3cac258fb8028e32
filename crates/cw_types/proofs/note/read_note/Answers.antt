use Rattle.cw_base.proofs.Ends.{end_of_end}
use Rattle.cw_types.proofs.note.read_note.Goals as goal

pub returns-in-0-clause-place : goal.returns-in-0-clause-place
returns-in-0-clause-place c =
    end_of_end c.u8.ensures.place c.read_block_note.ensures.place

pub returns-in-1-clause-place : goal.returns-in-1-clause-place
returns-in-1-clause-place c =
    end_of_end c.u8.ensures.place c.read_verified.ensures.place

pub returns-in-2-clause-place : goal.returns-in-2-clause-place
returns-in-2-clause-place c =
    end_of_end c.u8.ensures.place c.read_certified.ensures.place

pub returns-in_err-read_formed_vote-in-3-clause-place :
    goal.returns-in_err-read_formed_vote-in-3-clause-place
returns-in_err-read_formed_vote-in-3-clause-place c =
    end_of_end c.u8.ensures.place c.read_formed_vote.ensures.place

pub returns-in_ok-read_formed_vote-in-3-clause-place :
    goal.returns-in_ok-read_formed_vote-in-3-clause-place
returns-in_ok-read_formed_vote-in-3-clause-place c =
    end_of_end c.u8.ensures.place c.read_formed_vote.ensures.place

pub returns-in-4-clause-place : goal.returns-in-4-clause-place
returns-in-4-clause-place c =
    end_of_end c.u8.ensures.place c.read_cert_note.ensures.place

pub returns-in_err-read_height-in-5-clause-place : goal.returns-in_err-read_height-in-5-clause-place
returns-in_err-read_height-in-5-clause-place c =
    end_of_end c.u8.ensures.place c.read_height.ensures.place

pub returns-in_ok-read_height-in-5-clause-place : goal.returns-in_ok-read_height-in-5-clause-place
returns-in_ok-read_height-in-5-clause-place c =
    end_of_end c.u8.ensures.place c.read_height.ensures.place

pub returns-in_err-read_height-in-6-clause-place : goal.returns-in_err-read_height-in-6-clause-place
returns-in_err-read_height-in-6-clause-place c =
    end_of_end c.u8.ensures.place c.read_height-in-6.ensures.place

pub returns-in_ok-read_height-in-6-clause-place : goal.returns-in_ok-read_height-in-6-clause-place
returns-in_ok-read_height-in-6-clause-place c =
    end_of_end c.u8.ensures.place c.read_height-in-6.ensures.place
