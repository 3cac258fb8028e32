use Rattle.std.proofs.Common.{[]}
use Rattle.cw_types.specs.Same.{same_proposal, same_vote}
use Rattle.note_scans.specs.Keys.{key_of, keyed}
use Rattle.voter.specs.Known.{unknowing}
use Rattle.voter.specs.Waiting.{can_certify, is_open}
use Rattle.voter.proofs.waiting.Waiting.new.Goals as goal

pub returns : goal.returns
returns c = λ x id. record {
  votes = c.new.ensures key_of same_vote (can_certify (unknowing x id));
  proposals = c.new-2.ensures (keyed 3) same_proposal (is_open x id []);
  in_views = c.new-3.ensures;
}
