use Rattle.std.proofs.Common.{◌≡◌, ℕ, ◌<◌, ◌^◌, List, get_or, refl, ap, ◌∙◌, arith}
use Rattle.std.proofs.lemmas.List.{length-set}
use Rattle.rs_code.specs.Field.{times}
use Rattle.rs_code.proofs.Steps.{in_turn, two_four}
use Rattle.rs_code.proofs.LaneLaws.{first_entry, itself, nothing}
use Rattle.rs_code.proofs.eights.spread_short.Goals as goal

pub returns-clause-count : goal.returns-clause-count
returns-clause-count c =
    c.double_products-4.ensures.count ∙ c.double_products-3.ensures.count
    ∙ c.double_products-2.ensures.count ∙ c.double_products.ensures.count
    ∙ length-set c.args.table.now 0 nothing ∙ c.requires

pub returns-clause-each : goal.returns-clause-each
returns-clause-each c =
    let factors : List ℕ = c.args.factors.now in
    let fits : (l : ℕ) → get_or factors l 0 < 2 ^ 16 = λ l. omega arith in
    let one =
    c.double_products.ensures.each 0 refl (omega arith)
    (λ l h. itself (get_or factors l 0) (fits l))
    (first_entry c.args.table.now (λ l. get_or factors l 0) fits
    (omega (arith, c.requires))) in
    let by_eight : (l : ℕ) → l < 8
    → get_or c.each_by_4-2.result l 0 ≡ times (get_or factors l 0) 8 =
    λ l h. c.each_by_4-2.ensures l h ∙ ap (λ (x : ℕ). times x 4) (c.each_by_2-two.ensures l h)
    ∙ in_turn (get_or factors l 0) 2 4 8 (fits l) (omega arith) (omega arith) two_four in
    let two = c.double_products-2.ensures.each 1 refl (omega arith) c.each_by_2-two.ensures one in
    let three = c.double_products-3.ensures.each 2 refl (omega arith) c.each_by_4.ensures two in
    c.double_products-4.ensures.each 3 refl (omega arith) by_eight three
