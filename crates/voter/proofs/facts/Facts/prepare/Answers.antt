use Rattle.voter.proofs.facts.Facts.prepare.Goals as goal

pub returns-in_err-prepare-2-clause-same : goal.returns-in_err-prepare-2-clause-same
returns-in_err-prepare-2-clause-same c = λ notes have. record {
  saying = c.prepare.ensures.same notes have.saying;
  settling = have.settling;
  ending_views = c.prepare-2.ensures.same notes have.ending_views;
  running = have.running;
  entering = have.entering;
  standing = have.standing;
  pruning = have.pruning;
}

pub returns-in_err-prepare-3-clause-same : goal.returns-in_err-prepare-3-clause-same
returns-in_err-prepare-3-clause-same c = λ notes have. record {
  saying = c.prepare.ensures.same notes have.saying;
  settling = have.settling;
  ending_views = c.prepare-2.ensures.same notes have.ending_views;
  running = c.prepare-3.ensures.same notes have.running;
  entering = have.entering;
  standing = have.standing;
  pruning = have.pruning;
}

pub returns-clause-same : goal.returns-clause-same
returns-clause-same c = λ notes have. record {
  saying = c.prepare.ensures.same notes have.saying;
  settling = have.settling;
  ending_views = c.prepare-2.ensures.same notes have.ending_views;
  running = c.prepare-3.ensures.same notes have.running;
  entering = have.entering;
  standing = c.prepare-4.ensures.same notes have.standing;
  pruning = have.pruning;
}
