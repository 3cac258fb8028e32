use Rattle.cw_base.proofs.Ends.{end_of_end}
use Rattle.cw_tree.proofs.ChunkParts.{gives_err, no_shard, no_index, no_proof, no_room}
use Rattle.cw_tree.proofs.chunk.Chunk.read.Goals as goal

pub returns-in_err-shard-clause-value : goal.returns-in_err-shard-clause-value
returns-in_err-shard-clause-value g c =
    let shard = rw c.widest_shard-bound.ensures at c.in_err-shard.ensures.value in
    gives_err _ c.from_residual.result _ _ _ c.from_residual.ensures.1
    (no_shard g.D.Digest.SIZE _ _ _ _ shard)

pub returns-in_err-shard-clause-place : goal.returns-in_err-shard-clause-place
returns-in_err-shard-clause-place g c = c.read_shard.ensures.place

pub returns-in_err-index-clause-value : goal.returns-in_err-index-clause-value
returns-in_err-index-clause-value g c =
    let shard = rw c.widest_shard-bound.ensures at c.in_ok-shard.ensures.value in
    gives_err _ c.from_residual-in_err-index.result _ _ _ c.from_residual-in_err-index.ensures.1
    (no_index g.D.Digest.SIZE _ _ _ _ _ _ shard c.in_err-index.ensures.value)

pub returns-in_err-index-clause-place : goal.returns-in_err-index-clause-place
returns-in_err-index-clause-place g c =
    end_of_end c.read_shard.ensures.place c.be16.ensures.place

pub returns-in_err-proof-clause-value : goal.returns-in_err-proof-clause-value
returns-in_err-proof-clause-value g c =
    let shard = rw c.widest_shard-bound.ensures at c.in_ok-shard.ensures.value in
    gives_err _ c.from_residual-in_err-proof.result _ _ _ c.from_residual-in_err-proof.ensures.1
    (no_proof g.D.Digest.SIZE _ _ _ _ _ _ _ _ shard c.in_ok-index.ensures.value
    c.in_err-proof.ensures.value)

pub returns-in_err-proof-clause-place : goal.returns-in_err-proof-clause-place
returns-in_err-proof-clause-place g c =
    end_of_end c.read_shard.ensures.place
    (end_of_end c.be16.ensures.place c.read.ensures.place)

pub returns-in_err-shard-2-clause-value : goal.returns-in_err-shard-2-clause-value
returns-in_err-shard-2-clause-value g c =
    let shard = rw c.widest_shard-bound.ensures at c.in_ok-shard.ensures.value in
    gives_err _ c.from_residual-in_err-shard-2.result _ _ _
    c.from_residual-in_err-shard-2.ensures.1
    (no_room g.D.Digest.SIZE _ _ _ _ _ _ _ _ shard c.in_ok-index.ensures.value
    c.in_ok-proof.ensures.value)

pub returns-in_err-shard-2-clause-place : goal.returns-in_err-shard-2-clause-place
returns-in_err-shard-2-clause-place g c =
    end_of_end c.read_shard.ensures.place
    (end_of_end c.be16.ensures.place c.read.ensures.place)

pub returns-clause-place : goal.returns-clause-place
returns-clause-place g c =
    end_of_end c.read_shard.ensures.place
    (end_of_end c.be16.ensures.place c.read.ensures.place)
