use Rattle.std.proofs.Common.{filter_map, map}
use Rattle.cw_types.specs.Same.{same_vote}
use Rattle.cw_rules.specs.Owed.{ballot_vote, note_vote}
use Rattle.note_scans.specs.Keys.{key_of}
use Rattle.voter.specs.Waiting.{can_certify}
use Rattle.voter.proofs.waiting.Waiting.prepare_vote.Goals as goal

pub returns-in_err-prepare_noted-clause-waiting : goal.returns-in_err-prepare_noted-clause-waiting
returns-in_err-prepare_noted-clause-waiting c = λ t are. record {
  votes =
      c.prepare_noted.ensures.same key_of same_vote (can_certify t) (map ballot_vote t.ballots)
      (filter_map note_vote t.notes) are.votes;
  proposals =
      are.proposals;
  in_views =
      are.in_views;
}

pub returns-in_ok-prepare_noted-clause-waiting : goal.returns-in_ok-prepare_noted-clause-waiting
returns-in_ok-prepare_noted-clause-waiting c = λ t are. record {
  votes =
      c.prepare_noted.ensures.same key_of same_vote (can_certify t) (map ballot_vote t.ballots)
      (filter_map note_vote t.notes) are.votes;
  proposals =
      are.proposals;
  in_views =
      are.in_views;
}
