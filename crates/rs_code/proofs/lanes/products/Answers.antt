use Rattle.std.proofs.Common.{ℕ, ◌%◌, ◌/◌, ◌∙◌, ◌≡◌, List, ap, ap₂, arith, bit_xor, get_or}
use Rattle.rs_code.specs.Field.{times}
use Rattle.rs_code.proofs.Steps as Steps
use Rattle.rs_code.proofs.lanes.products.Goals as goal

pub returns : goal.returns
returns c = λ l h.
    let a : ℕ = get_or c.args.a.now l 0 in
    let b : ℕ = get_or c.args.b.now l 0 in
    let one : get_or c.multiples_of-multiples.result.one l 0 ≡ a =
    ap (λ (xs : List ℕ). get_or xs l 0) c.multiples_of-multiples.ensures in
    let low : get_or c.low_parts.result l 0 ≡ b % 256 = c.low_parts.ensures l h in
    let high : get_or c.high_parts.result l 0 ≡ b / 256 = c.high_parts.ensures l h in
    c.sum_of_two.ensures l h
    ∙ ap₂ bit_xor
    (c.by_eight_bits-low.ensures l h (omega (arith, low)) ∙ ap₂ times one low)
    (c.each_by_256.ensures l h
    ∙ ap (λ (x : ℕ). times x 256)
    (c.by_eight_bits-high.ensures l h (omega (arith, high)) ∙ ap₂ times one high)
    ∙ Steps.swapped a (b / 256) 256 (omega arith) (omega arith) (omega arith))
    ∙ Steps.by_all_bits a b (omega arith) (omega arith)
