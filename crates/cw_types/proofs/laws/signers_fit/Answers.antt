use Rattle.std.proofs.Common.{ℕ, suc, ◌^◌, ◌<◌, List, [], ◌∷◌, get_or, arith}
use Rattle.cw_types.specs.Values.{AreMembers}
use Rattle.cw_types.proofs.laws.signers_fit.Goals as goal

each_fits : (xs : List ℕ) → ((i : ℕ) → get_or xs i 0 < 2 ^ 16) → AreMembers xs
each_fits [] h = tt
each_fits (x ∷ xs) h = (h 0, each_fits xs (λ i. h (suc i)))

pub returns : goal.returns
returns c = each_fits c.args.signers.now (λ i. let fits = c.type_inv.signers i in omega arith)
