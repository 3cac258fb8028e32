use Rattle.hailstorm.proofs.reply.law_of_equality.Goals as goal

pub returns : goal.returns
returns g c = g.met.T.Eq.laws.refl c.args.value.now
