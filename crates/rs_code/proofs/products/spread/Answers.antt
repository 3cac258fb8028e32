use Rattle.std.proofs.Common.{◌≡◌, ℕ, ◌<◌, ◌^◌, refl, sym, ap, ◌∙◌, arith}
use Rattle.rs_code.specs.Field.{times}
use Rattle.rs_code.proofs.Field.{is_field}
use Rattle.rs_code.proofs.Steps.{in_turn, two_four, two_sixteen, four_sixteen, eight_sixteen}
use Rattle.rs_code.proofs.ProductTables.{first_entry}
use Rattle.rs_code.proofs.products.spread.Goals as goal

pub returns-clause-each : goal.returns-clause-each
returns-clause-each c =
    let factor : ℕ = c.args.factor in
    let fits : factor < 2 ^ 16 = c.ranges.factor.fits in
    let by_eight : c.by_4-eight.result ≡ times factor 8 =
    c.by_4-eight.ensures ∙ ap (λ (x : ℕ). times x 4) c.by_2-two.ensures
    ∙ in_turn factor 2 4 8 fits (omega arith) (omega arith) two_four in
    let one =
    c.double_products.ensures.each 0 refl (omega arith) (sym (is_field.product_one factor fits))
    (first_entry c.args.table.now factor (omega (arith, c.requires))) in
    let two = c.double_products-2.ensures.each 1 refl (omega arith) c.by_2-two.ensures one in
    let three = c.double_products-3.ensures.each 2 refl (omega arith) c.by_4-four.ensures two in
    let four = c.double_products-4.ensures.each 3 refl (omega arith) by_eight three in
    let five = c.double_products-5.ensures.each 4 refl (omega arith) c.by_16.ensures four in
    let six = c.double_products-6.ensures.each 5 refl (omega arith)
    (c.by_16-2.ensures ∙ ap (λ (x : ℕ). times x 16) c.by_2-two.ensures
    ∙ in_turn factor 2 16 32 fits (omega arith) (omega arith) two_sixteen)
    five in
    let seven = c.double_products-7.ensures.each 6 refl (omega arith)
    (c.by_16-3.ensures ∙ ap (λ (x : ℕ). times x 16) c.by_4-four.ensures
    ∙ in_turn factor 4 16 64 fits (omega arith) (omega arith) four_sixteen)
    six in
    c.double_products-8.ensures.each 7 refl (omega arith)
    (c.by_16-4.ensures ∙ ap (λ (x : ℕ). times x 16) by_eight
    ∙ in_turn factor 8 16 128 fits (omega arith) (omega arith) eight_sixteen)
    seven
