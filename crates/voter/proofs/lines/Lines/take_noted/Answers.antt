use Rattle.voter.proofs.lines.Lines.take_noted.Goals as goal

pub returns : goal.returns
returns g c = λ key same laws was now agree named waits came noted are. record {
  of_came = c.renew.ensures key same laws was now agree named waits came are.of_came;
  of_notes = c.take.ensures key same laws was now agree named waits noted are.of_notes;
}
