use Rattle.cw_tree.proofs.FormatLaws.{proof_reads_back, chunk_reads_back}
use Rattle.cw_tree.proofs.laws.chunks_read_back.Goals as goal

pub returns : goal.returns
returns c = record { proof = proof_reads_back; chunk = chunk_reads_back }
