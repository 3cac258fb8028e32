use Rattle.cw_tree.specs.Formats.{chunk_at, widest}
use Rattle.cw_types.specs.Reading.{block_chunk_at}
use Rattle.cw_types.proofs.ShardRead.{gives_digests}
use Rattle.cw_types.proofs.message.read_shard.Goals as goal

pub returns-clause-value : goal.returns-clause-value
unfolding block_chunk_at
returns-clause-value c =
    gives_digests c.read.result c.read.new.reader
    (chunk_at 32 (widest c.args.config.now.minimum 1048745) c.args.reader.now)
    c.read.ensures.value
