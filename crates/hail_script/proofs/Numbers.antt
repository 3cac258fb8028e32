-- What a field of digits stands for.
use Rattle.std.proofs.Common.{◌≡◌, ℕ, ◌<◌, ◌^◌, true, false, List, length, Some, None, Ok, Err, arith, rules}
use Rattle.std.specs.Char.{is_ascii_digit}
use Rattle.std.specs.List.{list_all}
use Rattle.std.specs.Str.{IsUtf8}
use Rattle.std.specs.Str.Parse.{digits_value, ParsesUnsigned}
use Rattle.std.proofs.lemmas.Bool.Decides.{nat_tests}
use Rattle.std.proofs.lemmas.Fmt.{IsAscii-from_digits}
use Rattle.std.proofs.lemmas.Str.{IsUtf8-from_ascii}
use Rattle.std.proofs.lemmas.Str.Parse.{IsNumeralModel, numerals_by_value, parse_digits}
use Rattle.hail_script.specs.Pieces.{number}

digits : IsNumeralModel (λ ds. list_all is_ascii_digit ds ≡ true) (digits_value 10)
digits = numerals_by_value (λ ds. list_all is_ascii_digit ds ≡ true) (search rules)

pub digits_are_text : (field : List ℕ) → list_all is_ascii_digit field ≡ true → IsUtf8 field
digits_are_text field h = IsUtf8-from_ascii field (IsAscii-from_digits field (digits.to field h))

pub number_of_empty : (field : List ℕ) → length field ≡ 0 → None ≡ number field
unfolding number
number_of_empty field h = grind (arith, nat_tests)

pub number_of_other : (field : List ℕ) → list_all is_ascii_digit field ≡ false → None ≡ number field
unfolding number
number_of_other field h = grind (arith, nat_tests)

pub number_of_digits : (field : List ℕ) (v : ℕ) → 0 < length field
    → list_all is_ascii_digit field ≡ true → digits_value 10 field < 2 ^ 64
    → v ≡ digits_value 10 field → Some v ≡ number field
unfolding number
number_of_digits field v h d b e = grind (arith, nat_tests)

pub number_too_great : (field : List ℕ) → (digits_value 10 field < 2 ^ 64 → ⊥) → None ≡ number field
unfolding number
number_too_great field b = grind (arith, nat_tests)

-- what parse says of digits
pub number_read : (field text : List ℕ) (v : ℕ) → text ≡ field
    → list_all is_ascii_digit field ≡ true → 0 < length field
    → ParsesUnsigned {E = ℕ} 64 10 text (Ok v) → Some v ≡ number field
number_read field text v same d h p =
    let q = parse_digits digits {E = ℕ} 64 field (Ok v) (rw same at p) d in
    number_of_digits field v h d q.0.1 q.1

pub number_refused : (field text : List ℕ) → text ≡ field → list_all is_ascii_digit field ≡ true
    → 0 < length field → ParsesUnsigned {E = ℕ} 64 10 text (Err 0) → None ≡ number field
number_refused field text same d h p =
    let q = parse_digits digits {E = ℕ} 64 field (Err 0) (rw same at p) d in
    number_too_great field (λ b. q (h, b))
