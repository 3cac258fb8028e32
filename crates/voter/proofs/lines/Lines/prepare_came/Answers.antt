use Rattle.voter.proofs.lines.Lines.prepare_came.Goals as goal

pub returns-in_err-reserve-clause-same : goal.returns-in_err-reserve-clause-same
returns-in_err-reserve-clause-same g c = λ key same passes came noted are. record {
  of_came = are.of_came;
  of_notes = c.reserve.ensures.same key same passes noted are.of_notes;
}

pub returns-in_err-prepare-clause-same : goal.returns-in_err-prepare-clause-same
returns-in_err-prepare-clause-same g c = λ key same passes came noted are. record {
  of_came = c.prepare.ensures.same key same passes came are.of_came;
  of_notes = c.reserve.ensures.same key same passes noted are.of_notes;
}

pub returns-clause-same : goal.returns-clause-same
returns-clause-same g c = λ key same passes came noted are. record {
  of_came = c.prepare.ensures.same key same passes came are.of_came;
  of_notes = c.reserve.ensures.same key same passes noted are.of_notes;
}
