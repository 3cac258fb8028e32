use Rattle.std.proofs.Common.{filter_map}
use Rattle.cw_types.specs.Same.{same_proposal}
use Rattle.cw_rules.specs.Owed.{note_proposal}
use Rattle.note_scans.specs.Keys.{keyed}
use Rattle.voter.specs.Waiting.{came_proposals, is_open}
use Rattle.voter.proofs.waiting.Waiting.prepare_proposal.Goals as goal

pub returns-in_err-prepare_noted-clause-waiting : goal.returns-in_err-prepare_noted-clause-waiting
returns-in_err-prepare_noted-clause-waiting c = λ t are. record {
  votes =
      are.votes;
  proposals =
      c.prepare_noted.ensures.same (keyed 3) same_proposal (is_open t.epochs t.id t.notes)
      (came_proposals t.ballots) (filter_map note_proposal t.notes) are.proposals;
  in_views =
      are.in_views;
}

pub returns-in_ok-prepare_noted-clause-waiting : goal.returns-in_ok-prepare_noted-clause-waiting
returns-in_ok-prepare_noted-clause-waiting c = λ t are. record {
  votes =
      are.votes;
  proposals =
      c.prepare_noted.ensures.same (keyed 3) same_proposal (is_open t.epochs t.id t.notes)
      (came_proposals t.ballots) (filter_map note_proposal t.notes) are.proposals;
  in_views =
      are.in_views;
}
