use Rattle.std.proofs.Common.{◌≡◌, ℕ, ◌<◌, length, get_or, bit_xor, sym, ap, ap₂, ◌∙◌, arith, ⊎_elim}
use Rattle.std.proofs.lemmas.Bool.{cases_eq}
use Rattle.rs_code.specs.Codeword.{product_below}
use Rattle.rs_code.specs.Coefficients.{difference}
use Rattle.rs_code.specs.Field.{times, inverse}
use Rattle.rs_code.proofs.Codewords.{product_none, product_more}
use Rattle.rs_code.proofs.LaneLaws.{same_lanes}
use Rattle.rs_code.proofs.WeightLaws.{difference_here, difference_there, differences_nonzero, weight_is}
use Rattle.rs_code.proofs.basis.weights_at.Goals as goal

pub loop-point-init : goal.loop-point-init
loop-point-init c = λ i s hi _ _. same_lanes 1 i hi ∙ sym (product_none _)

pub loop-point-preserved : goal.loop-point-preserved
loop-point-preserved c = λ i s hi hs same.
    let P : ℕ → ℕ = λ t. get_or c.args.points.now t 0 in
    let u : ℕ = c.loop-point.point-index in
    let x : ℕ = get_or c.args.xs.now i 0 in
    let within : u < length c.args.points.now = omega arith in
    let own : get_or c.one_where_equal-others.result i 0 ≡ difference P s u =
    ⊎_elim
    (λ here. c.one_where_equal-others.ensures.here i hi here
    ∙ sym (difference_here P s u (sym (c.requires.distinct s u hs within (sym same ∙ here)))))
    (λ other. c.one_where_equal-others.ensures.away i hi other ∙ c.differences.ensures i hi
    ∙ ap (λ (y : ℕ). bit_xor y (P u)) same
    ∙ sym (difference_there P s u (λ e. other (same ∙ ap P (sym e)))))
    (cases_eq x (P u)) in
    c.products-product.ensures i hi
    ∙ ap₂ times (c.loop-point.invariant i s hi hs same) own
    ∙ sym (product_more u (λ t. difference P s t))

pub returns : goal.returns
returns c = λ i s hi hs same.
    let P : ℕ → ℕ = λ t. get_or c.args.points.now t 0 in
    let whole : c.loop-point.point-index ≡ length c.args.points.now = omega arith in
    let product =
    c.loop-point.invariant i s hi hs same
    ∙ ap (λ (n : ℕ). product_below n (λ t. difference P s t)) whole in
    c.inverses.ensures i hi
    (λ z. differences_nonzero (length c.args.points.now) P s c.requires hs (sym product ∙ z))
    ∙ ap inverse product
    ∙ sym (weight_is (length c.args.points.now) P s)
