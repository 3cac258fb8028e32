use Rattle.std.proofs.Common.{◌≡◌, length, arith}
use Rattle.rs_code.proofs.RowPicks.{symbol_sum}
use Rattle.rs_code.proofs.row_lists.summed.Goals as goal

pub returns-clause-symbols : goal.returns-clause-symbols
returns-clause-symbols c = λ w i j h l.
    let all : c.loop-i.i ≡ length c.args.first.now = omega arith in
    symbol_sum c.loop-i.sums.items c.args.first.now c.args.second.now w i j h l
    (λ p. omega (arith, c.type_inv.first p)) (λ p. omega (arith, c.type_inv.second p))
    (λ p m. c.loop-i.invariant.each p (omega (arith, m, all)))
