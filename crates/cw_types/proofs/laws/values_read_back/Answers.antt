use Rattle.cw_types.proofs.FormatLaws.{commitment_reads_back, context_reads_back, block_reads_back}
use Rattle.cw_types.proofs.FormatLaws.{proposal_reads_back}
use Rattle.cw_types.proofs.TaggedLaws.{vote_reads_back, cert_reads_back}
use Rattle.cw_types.proofs.NoteLaws.{note_reads_back}
use Rattle.cw_types.proofs.laws.values_read_back.Goals as goal

pub returns : goal.returns
returns c = record {
  commitment = commitment_reads_back;
  context = context_reads_back;
  block = block_reads_back;
  proposal = proposal_reads_back;
  vote = vote_reads_back;
  cert = cert_reads_back;
  note = note_reads_back;
}
