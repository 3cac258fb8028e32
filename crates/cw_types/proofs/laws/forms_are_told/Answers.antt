use Rattle.cw_types.specs.Encoding.{block_bytes, cert_bytes, commitment_bytes, context_bytes}
use Rattle.cw_types.specs.Encoding.{note_bytes, vote_bytes}
use Rattle.cw_types.specs.Reading.{block_at, cert_at, commitment_at, context_at, note_at, vote_at}
use Rattle.cw_types.specs.Values.{IsBlock, IsCert, IsCommitment, IsContext, IsNote, IsVote}
use Rattle.cw_types.proofs.FormatLaws.{block_reads_back, commitment_reads_back, context_reads_back}
use Rattle.cw_types.proofs.FormatLaws.{prefix_free}
use Rattle.cw_types.proofs.NoteLaws.{note_reads_back}
use Rattle.cw_types.proofs.TaggedLaws.{cert_reads_back, vote_reads_back}
use Rattle.cw_types.proofs.laws.forms_are_told.Goals as goal

pub returns : goal.returns
returns c = record {
  commitment = prefix_free commitment_bytes IsCommitment commitment_at commitment_reads_back;
  context = prefix_free context_bytes IsContext context_at context_reads_back;
  block = prefix_free block_bytes IsBlock block_at block_reads_back;
  vote = prefix_free vote_bytes IsVote vote_at vote_reads_back;
  cert = prefix_free cert_bytes IsCert cert_at cert_reads_back;
  note = prefix_free note_bytes IsNote note_at note_reads_back;
}
