use Rattle.voter.proofs.lines.Lines.new.Goals as goal

pub returns : goal.returns
returns g c = λ key same passes. record {
  of_came = c.new.ensures key same passes;
  of_notes = c.new-2.ensures key same passes;
}
