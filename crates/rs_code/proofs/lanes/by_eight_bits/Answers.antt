use Rattle.std.proofs.Common.{ℕ, ◌%◌, ◌/◌, ◌<◌, ◌^◌, ◌∙◌, ◌≡◌, ap, ap₂, arith, bit_xor, get_or}
use Rattle.rs_code.specs.Field.{times}
use Rattle.rs_code.proofs.Steps as Steps
use Rattle.rs_code.proofs.lanes.by_eight_bits.Goals as goal

pub returns : goal.returns
returns c = λ l h w.
    let a : ℕ = get_or c.args.a.now.one l 0 in
    let b : ℕ = get_or c.args.b.now l 0 in
    let fits : a < 2 ^ 16 = c.args.a.now.one_fits l h in
    let low : get_or c.low_parts.result l 0 ≡ b % 16 = c.low_parts.ensures l h in
    let high : get_or c.high_parts.result l 0 ≡ b / 16 = c.high_parts.ensures l h in
    c.sum_of_two.ensures l h
    ∙ ap₂ bit_xor
    (c.by_four_bits-low.ensures l h (omega (arith, low)) ∙ ap (times a) low)
    (c.each_by_16.ensures l h
    ∙ ap (λ (x : ℕ). times x 16)
    (c.by_four_bits-high.ensures l h (omega (arith, high, w)) ∙ ap (times a) high)
    ∙ Steps.swapped a (b / 16) 16 fits (omega arith) (omega arith))
    ∙ Steps.by_eight_bits a b fits w
