use Rattle.cw_types.proofs.Wanting.{block, cert, commitment, context, message, note}
use Rattle.cw_types.proofs.Wanting.{proposal, shard, vote}
use Rattle.cw_types.proofs.laws.formats_want_no_memory.Goals as goal

pub returns : goal.returns
returns c = record {
  commitment = λ bytes. (commitment bytes).never;
  context = λ bytes. (context bytes).never;
  block = λ bytes. (block bytes).never;
  proposal = λ epoch bytes. (proposal epoch bytes).never;
  vote = λ bytes. (vote bytes).never;
  cert = λ bytes. (cert bytes).never;
  note = λ bytes. (note bytes).never;
  shard = λ config bytes. (shard config bytes).never;
  message = λ bytes. (message bytes).never;
}
