use Rattle.std.proofs.Common.{◌≡◌, ℕ, ◌+◌, ◌-◌, ◌*◌, ◌/◌, length, bit_xor, sym, ap, ◌∙◌, arith}
use Rattle.rs_code.specs.Codeword.{sum_below}
use Rattle.rs_code.specs.Field.{times}
use Rattle.rs_code.specs.Coefficients.{lane}
use Rattle.rs_code.specs.Symbols.{symbol_in}
use Rattle.rs_code.proofs.Codewords.{sum_more}
use Rattle.rs_code.proofs.pairs.add_odd_row.Goals as goal

pub returns-clause-each : goal.returns-clause-each
unfolding lane
returns-clause-each c = λ j l hj hl before.
    let f : ℕ → ℕ =
    λ s. times (symbol_in c.args.columns s j)
    (lane c.args.factors.now s l) in
    let row : ℕ = length c.args.factors.now - 1 in
    let even : 2 * (length c.args.factors.now / 2) ≡ row = omega arith in
    let last : row + 1 ≡ length c.args.factors.now = omega arith in
    c.add_row.ensures.each j l hj hl
    ∙ ap (λ (x : ℕ). bit_xor x (f row)) (before ∙ ap (λ (n : ℕ). sum_below n f) even)
    ∙ sym (sum_more row f)
    ∙ ap (λ (n : ℕ). sum_below n f) last
