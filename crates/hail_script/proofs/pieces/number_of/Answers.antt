use Rattle.std.proofs.Common.{◌<◌, length, sym, ◌∙◌, rules}
use Rattle.hail_script.proofs.Numbers.{digits_are_text, number_of_empty, number_of_other, number_read, number_refused}
use Rattle.hail_script.proofs.pieces.number_of.Goals as goal

pub returns-then-is_empty : goal.returns-then-is_empty
returns-then-is_empty c = number_of_empty _ (search rules)

pub returns-then-not-are_digits : goal.returns-then-not-are_digits
returns-then-not-are_digits c =
    number_of_other _ (sym c.are_digits.ensures ∙ c.if-not-are_digits.true)

pub returns-in_default : goal.returns-in_default
returns-in_default c =
    absurd
    (c.in_default.ensures.cases.0
    (digits_are_text _ (sym c.are_digits.ensures ∙ c.if-not-are_digits.false)))

pub returns-in-Ok-parse : goal.returns-in-Ok-parse
returns-in-Ok-parse c =
    let some : 0 < length c.args.field.now = search rules in
    number_read _ _ _ c.in-Ok.ensures.cases.0 (sym c.are_digits.ensures ∙ c.if-not-are_digits.false)
    some c.in-Ok-parse.ensures.value.0

pub returns-in-Err : goal.returns-in-Err
returns-in-Err c =
    let some : 0 < length c.args.field.now = search rules in
    number_refused _ _ c.in-Ok.ensures.cases.0
    (sym c.are_digits.ensures ∙ c.if-not-are_digits.false) some c.in-Err.ensures.value.0
