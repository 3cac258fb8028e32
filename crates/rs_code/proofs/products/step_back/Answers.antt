use Rattle.std.proofs.Common.{get_or, ◌∙◌, arith}
use Rattle.std.proofs.lemmas.Nat.{xor_comm}
use Rattle.rs_code.proofs.products.step_back.Goals as goal

pub returns-clause-second : goal.returns-clause-second
returns-clause-second c = λ p h.
    c.add.ensures.each p (omega arith) (omega (arith, h, c.requires.second))
    ∙ xor_comm (get_or c.args.second.now p 0) (get_or c.args.first.now p 0)
