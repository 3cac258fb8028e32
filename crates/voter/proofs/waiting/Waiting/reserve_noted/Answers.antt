use Rattle.std.proofs.Common.{subst, sym}
use Rattle.cw_types.specs.declared.vote.Vote.{Vote}
use Rattle.note_scans.specs.Keys.{key_of}
use Rattle.voter.specs.Lines.{IsNoting}
use Rattle.voter.specs.declared.lines.Lines.{Lines}
use Rattle.voter.proofs.waiting.Waiting.reserve_noted.Goals as goal

pub returns-clause-ready : goal.returns-clause-ready
returns-clause-ready c = record {
  vote = λ v e.
      subst (λ (l : Lines Vote). IsNoting (key_of v) l) (sym c.prepare_proposal.ensures.votes)
      (c.in_ok-prepare_vote.ensures.ready v e);
  proposal = λ p e. c.in_ok-prepare_proposal.ensures.ready p e;
}

pub returns-clause-waiting : goal.returns-clause-waiting
returns-clause-waiting c = λ t are.
    c.prepare_proposal.ensures.waiting t (c.prepare_vote.ensures.waiting t are)
