use Rattle.std.proofs.Common.{ℕ, ◌%◌, ◌/◌, ◌∙◌, ◌≡◌, ap, ap₂, arith, bit_xor, get_or, sym}
use Rattle.rs_code.specs.Field.{times}
use Rattle.rs_code.proofs.Steps as Steps
use Rattle.rs_code.proofs.lanes.by_four_bits.Goals as goal

pub by_two_bits-high-requires : goal.by_two_bits-high-requires
by_two_bits-high-requires c = λ l h.
    let a : ℕ = get_or c.args.a.now.one l 0 in
    c.args.a.now.eight_each l h
    ∙ sym
    (ap (λ (x : ℕ). times x 2) (c.args.a.now.four_each l h)
    ∙ Steps.in_turn a 4 2 8 (c.args.a.now.one_fits l h) (omega arith) (omega arith) Steps.four_two)

pub returns : goal.returns
returns c = λ l h w.
    let a : ℕ = get_or c.args.a.now.one l 0 in
    let b : ℕ = get_or c.args.b.now l 0 in
    let low : get_or c.low_parts.result l 0 ≡ b % 4 = c.low_parts.ensures l h in
    let high : get_or c.high_parts.result l 0 ≡ b / 4 = c.high_parts.ensures l h in
    c.sum_of_two.ensures l h
    ∙ ap₂ bit_xor
    (c.by_two_bits-low.ensures l h (omega (arith, low)) ∙ ap (times a) low)
    (c.by_two_bits-high.ensures l h (omega (arith, high, w))
    ∙ ap₂ times (c.args.a.now.four_each l h) high)
    ∙ Steps.by_four_bits a b (c.args.a.now.one_fits l h) w
