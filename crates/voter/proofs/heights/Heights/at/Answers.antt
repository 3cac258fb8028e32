use Rattle.std.proofs.Common.{◌∙◌, ℕ, Option, ap, unwrap_or}
use Rattle.cw_types.proofs.Ordered.{found_same}
use Rattle.voter.proofs.heights.Heights.at.Goals as goal

pub returns-in-Some : goal.returns-in-Some
returns-in-Some c =
    ap (λ (o : Option ℕ). unwrap_or o 0)
    (c.in-Some.ensures.value ∙ found_same c.args.self.now.above.entries c.args.commitment.now)

pub returns-in-None : goal.returns-in-None
returns-in-None c =
    ap (λ (o : Option ℕ). unwrap_or o 0)
    (c.in-None.ensures.value ∙ found_same c.args.self.now.above.entries c.args.commitment.now)
