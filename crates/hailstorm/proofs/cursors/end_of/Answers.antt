use Rattle.std.proofs.lemmas.List.{drop-take}
use Rattle.hailstorm.proofs.cursors.end_of.Goals as goal

pub returns-clause-run : goal.returns-clause-run
returns-clause-run c = λ rows many. drop-take c.args.from c.args.size rows
