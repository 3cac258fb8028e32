use Rattle.voter.proofs.Kept.{ballot_kept, block_kept, handed_kept, note_kept, other_kept, own_kept, start_stands, wish_kept}
use Rattle.voter.proofs.laws.standing_is_kept.Goals as goal

pub returns : goal.returns
returns c = record {
  start = start_stands;
  note = note_kept;
  ballot = ballot_kept;
  own_chunk = own_kept;
  other_chunk = other_kept;
  whole_block = block_kept;
  wish = wish_kept;
  handed = handed_kept;
}
