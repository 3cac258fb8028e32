use Rattle.cw_base.proofs.Ends.{end_of_end}
use Rattle.cw_types.proofs.message.read_shard_message.Goals as goal

pub returns-in_err-chunk-clause-place : goal.returns-in_err-chunk-clause-place
returns-in_err-chunk-clause-place c =
    end_of_end c.read.ensures.place c.read_shard.ensures.place

pub returns-clause-place : goal.returns-clause-place
returns-clause-place c =
    end_of_end c.read.ensures.place c.read_shard.ensures.place
