use Rattle.std.proofs.Common.{ℕ, ◌∙◌, ap, arith, get_or}
use Rattle.rs_code.specs.Field.{times}
use Rattle.rs_code.proofs.Steps.{in_turn, two_four}
use Rattle.rs_code.proofs.lanes.multiples_of.Goals as goal

pub invariant_of-result-clause-eight_each : goal.invariant_of-result-clause-eight_each
invariant_of-result-clause-eight_each c = λ l h.
    c.each_by_4-eight.ensures l h ∙ ap (λ (x : ℕ). times x 4) (c.each_by_2-two.ensures l h)
    ∙ in_turn (get_or c.args.a.now l 0) 2 4 8 (omega arith) (omega arith) (omega arith) two_four
