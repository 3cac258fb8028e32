use Rattle.std.proofs.Common.{◌≡◌, ℕ, get_or, bit_xor, sym, ap, ap₂, ◌∙◌, length, arith}
use Rattle.rs_code.specs.Codeword.{product_below}
use Rattle.rs_code.specs.Field.{times}
use Rattle.rs_code.proofs.Codewords.{product_none, product_more}
use Rattle.rs_code.proofs.LaneLaws.{same_lanes}
use Rattle.rs_code.proofs.WeightLaws.{distance_is}
use Rattle.rs_code.proofs.basis.distances_of.Goals as goal

pub loop-point-init : goal.loop-point-init
loop-point-init c = λ i h. same_lanes 1 i h ∙ sym (product_none _)

pub loop-point-preserved : goal.loop-point-preserved
loop-point-preserved c = λ i h.
    c.products-product.ensures i h
    ∙ ap₂ times (c.loop-point.invariant i h) (c.differences.ensures i h)
    ∙ sym
    (product_more c.loop-point.point-index
    (λ u. bit_xor (get_or c.args.xs.now i 0) (get_or c.args.points.now u 0)))

pub returns : goal.returns
returns c = λ i h.
    let whole : c.loop-point.point-index ≡ length c.args.points.now = omega arith in
    c.loop-point.invariant i h
    ∙ ap
    (λ (n : ℕ). product_below n
    (λ u. bit_xor (get_or c.args.xs.now i 0) (get_or c.args.points.now u 0)))
    whole
    ∙ sym
    (distance_is (length c.args.points.now) (λ u. get_or c.args.points.now u 0)
    (get_or c.args.xs.now i 0))
