use Rattle.cw_base.proofs.Ends.{end_of_end}
use Rattle.cw_types.proofs.message.read_tagged.Goals as goal

pub returns-in-0-clause-place : goal.returns-in-0-clause-place
returns-in-0-clause-place c =
    end_of_end c.u8.ensures.place c.read_shard_message.ensures.place

pub returns-in-1-clause-place : goal.returns-in-1-clause-place
returns-in-1-clause-place c =
    end_of_end c.u8.ensures.place c.read_vote_message.ensures.place

pub returns-in_err-read-in-2-clause-place : goal.returns-in_err-read-in-2-clause-place
returns-in_err-read-in-2-clause-place c =
    end_of_end c.u8.ensures.place c.read.ensures.place

pub returns-in_ok-read-in-2-clause-place : goal.returns-in_ok-read-in-2-clause-place
returns-in_ok-read-in-2-clause-place c =
    end_of_end c.u8.ensures.place c.read.ensures.place

pub returns-in-3-clause-place : goal.returns-in-3-clause-place
returns-in-3-clause-place c =
    end_of_end c.u8.ensures.place c.read_ask.ensures.place

pub returns-in-4-clause-place : goal.returns-in-4-clause-place
returns-in-4-clause-place c =
    end_of_end c.u8.ensures.place c.read_ask_height.ensures.place

pub returns-in_err-read_block-in-5-clause-place : goal.returns-in_err-read_block-in-5-clause-place
returns-in_err-read_block-in-5-clause-place c =
    end_of_end c.u8.ensures.place c.read_block.ensures.place

pub returns-in_ok-read_block-in-5-clause-place : goal.returns-in_ok-read_block-in-5-clause-place
returns-in_ok-read_block-in-5-clause-place c =
    end_of_end c.u8.ensures.place c.read_block.ensures.place
