use Rattle.std.proofs.Common.{◌≡◌, ℕ, ◌*◌, ◌%◌, ◌<◌, ◌^◌, refl, sym, ap, ◌∙◌, arith, ⊎_elim}
use Rattle.std.proofs.lemmas.Bool.{cases_eq}
use Rattle.rs_code.specs.Field.{times}
use Rattle.rs_code.proofs.Field.{is_field}
use Rattle.rs_code.proofs.WeightLaws.{times_zero}
use Rattle.rs_code.proofs.lanes.by_bit.Goals as goal

-- in native numbers, and in the field
same_product : (a b r : ℕ) → a < 2 ^ 16 → b < 2 → r ≡ a * b % 2 ^ 16 → r ≡ times a b
same_product a b r fits small h =
    ⊎_elim
    (λ none. h ∙ ap (λ (n : ℕ). a * n % 2 ^ 16) none
    ∙ (let zero : a * 0 % 2 ^ 16 ≡ 0 = omega arith in zero)
    ∙ sym (ap (times a) none ∙ times_zero a))
    (λ some. (let one : b ≡ 1 = omega (arith, some, small) in
    h ∙ ap (λ (n : ℕ). a * n % 2 ^ 16) one
    ∙ (let own : a * 1 % 2 ^ 16 ≡ a = omega (arith, fits) in own)
    ∙ sym (ap (times a) one ∙ is_field.product_one a fits)))
    (cases_eq b 0)

pub returns : goal.returns
returns c = λ small. same_product c.args.a c.args.b _ (omega arith) small refl
