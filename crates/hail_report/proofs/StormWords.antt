-- Fields between separators, and the numbers and bytes that they are read as.
use Rattle.std.proofs.Common.{◌≡◌, ℕ, zero, suc, ◌/◌, ◌%◌, ◌^◌, ◌<◌, ◌≤◌, ◌==◌, true, false, List, [], ◌∷◌, ◌++◌, length, Some, refl, sym, ◌∙◌, ap, arith, ne_eqb, eq-eqb, rules, ◌⊎◌, inl, inr}
use Rattle.std.specs.Prelude.{bytes_eq, codes, slice_index}
use Rattle.std.specs.Char.{is_ascii_digit}
use Rattle.std.specs.Fmt.{decimal}
use Rattle.std.specs.List.{AllByRecursion, list_all, onto_first, slice_split}
use Rattle.std.specs.Str.Parse.{AllDigits, digits_value}
use Rattle.std.proofs.lemmas.Bool.{cases_Bool}
use Rattle.std.proofs.lemmas.Slice.Eq.{bytes_eq-Decides}
use Rattle.std.proofs.lemmas.Fmt.{decimal_is_IsNumeral}
use Rattle.std.proofs.lemmas.List.Splits.{slice_split-cons_no, slice_split-cons_yes}
use Rattle.std.proofs.lemmas.Str.Parse.{IsNumeralModel, digit_from_value, numerals_by_value}
use Rattle.hex.specs.Hex.{IsBytes, encode_lower, encode_with, lower_digits}
use Rattle.hex.proofs.HexLemmas.{decode_of-encode_lower}
use Rattle.cw_base.specs.Bytes.{be32}
use Rattle.hail_script.specs.Pieces.{bytes_in, number, ok}
use Rattle.hail_script.specs.Grammar.{is_oversize}
use Rattle.hail_script.proofs.Numbers.{number_of_digits}

-- ---- separators

-- none of these is that byte
abbrev pub Lacks : ℕ → List ℕ → Type 0
Lacks s xs = AllByRecursion (λ x. (x == s) ≡ false) xs

pub lacks_both : (s : ℕ) (xs ys : List ℕ) → Lacks s xs → Lacks s ys → Lacks s (xs ++ ys)
lacks_both s [] ys a b = b
lacks_both s (x ∷ xs) ys a b = (a.0, lacks_both s xs ys a.1 b)

-- up to a separator stands one piece
pub split_there : (s : ℕ) (xs ys : List ℕ) → Lacks s xs
    → slice_split (λ b. b == s) (xs ++ s ∷ ys) ≡ xs ∷ slice_split (λ b. b == s) ys
split_there s [] ys h = slice_split-cons_yes (λ b. b == s) s ys (eq-eqb s s refl)
split_there s (x ∷ xs) ys h =
    slice_split-cons_no (λ b. b == s) x (xs ++ s ∷ ys) h.0
    ∙ ap (onto_first x) (split_there s xs ys h.1)

-- without one stands one piece
pub split_whole : (s : ℕ) (xs : List ℕ) → Lacks s xs
    → slice_split (λ b. b == s) xs ≡ xs ∷ []
split_whole s [] h = refl
split_whole s (x ∷ xs) h =
    slice_split-cons_no (λ b. b == s) x xs h.0 ∙ ap (onto_first x) (split_whole s xs h.1)

-- ---- numbers

lacks_digits : (s : ℕ) → s < 48 → (ds : List ℕ) → AllDigits 10 ds → Lacks s ds
lacks_digits s low [] d = tt
lacks_digits s low (c ∷ cs) d =
    let range = digit_from_value c d.0 in
    (ne_eqb c s (λ e. omega (arith, range.0)), lacks_digits s low cs d.1)

pub lacks_decimal : (s n : ℕ) → s < 48 → n < 2 ^ 64 → Lacks s (decimal n)
lacks_decimal s n low fits = lacks_digits s low (decimal n) (decimal_is_IsNumeral n fits).0.1

digits : IsNumeralModel (λ ds. list_all is_ascii_digit ds ≡ true) (digits_value 10)
digits = numerals_by_value (λ ds. list_all is_ascii_digit ds ≡ true) (search rules)

-- a number that is written is read as itself
pub number_again : (n : ℕ) → n < 2 ^ 64 → number (decimal n) ≡ Some n
number_again n fits =
    let is = decimal_is_IsNumeral n fits in
    sym
    (number_of_digits (decimal n) n is.0.0 (digits.from (decimal n) is.0.1)
    (omega (arith, is.1)) (sym is.1))

-- ---- bytes

-- a digit of two halves of a byte
digit_lacks : (s : ℕ) → s < 48 → (i : ℕ) → i < 16
    → (slice_index lower_digits i == s) ≡ false
digit_lacks s low i fits = ne_eqb (slice_index lower_digits i) s (λ e. omega (arith, high i fits))
  where
    high : (i : ℕ) → i < 16 → 48 ≤ slice_index lower_digits i
    high zero h = omega arith
    high (suc zero) h = omega arith
    high (suc (suc zero)) h = omega arith
    high (suc (suc (suc zero))) h = omega arith
    high (suc (suc (suc (suc zero)))) h = omega arith
    high (suc (suc (suc (suc (suc zero))))) h = omega arith
    high (suc (suc (suc (suc (suc (suc zero)))))) h = omega arith
    high (suc (suc (suc (suc (suc (suc (suc zero))))))) h = omega arith
    high (suc (suc (suc (suc (suc (suc (suc (suc zero)))))))) h = omega arith
    high (suc (suc (suc (suc (suc (suc (suc (suc (suc zero))))))))) h = omega arith
    high (suc (suc (suc (suc (suc (suc (suc (suc (suc (suc zero)))))))))) h = omega arith
    high (suc (suc (suc (suc (suc (suc (suc (suc (suc (suc (suc zero))))))))))) h = omega arith
    high (suc (suc (suc (suc (suc (suc (suc (suc (suc (suc (suc (suc zero)))))))))))) h = omega arith
    high (suc (suc (suc (suc (suc (suc (suc (suc (suc (suc (suc (suc (suc zero))))))))))))) h = omega arith
    high (suc (suc (suc (suc (suc (suc (suc (suc (suc (suc (suc (suc (suc (suc zero)))))))))))))) h = omega arith
    high (suc (suc (suc (suc (suc (suc (suc (suc (suc (suc (suc (suc (suc (suc (suc zero))))))))))))))) h = omega arith
    high (suc (suc (suc (suc (suc (suc (suc (suc (suc (suc (suc (suc (suc (suc (suc (suc i)))))))))))))))) h = absurd (omega arith)

lacks_encoded : (s : ℕ) → s < 48 → (xs : List ℕ) → IsBytes xs → Lacks s (encode_lower xs)
unfolding encode_with
lacks_encoded s low [] b = tt
lacks_encoded s low (x ∷ xs) b =
    let fits = b 0 in (
      digit_lacks s low (x / 16) (omega arith),
      (digit_lacks s low (x % 16) (omega arith), lacks_encoded s low xs (λ i. b (suc i))),
    )

-- four bytes
word_bytes : (word : ℕ) → IsBytes (be32 word)
unfolding be32
word_bytes word zero = omega arith
word_bytes word (suc zero) = omega arith
word_bytes word (suc (suc zero)) = omega arith
word_bytes word (suc (suc (suc zero))) = omega arith
word_bytes word (suc (suc (suc (suc i)))) = omega arith

pub lacks_word : (s word : ℕ) → s < 48 → Lacks s (encode_lower (be32 word))
lacks_word s word low = lacks_encoded s low (be32 word) (word_bytes word)

-- a word that is written is read as its bytes
pub word_again : (word : ℕ) → bytes_in (encode_lower (be32 word)) ≡ Some (be32 word)
unfolding bytes_in encode_with be32
word_again word =
    rw (no_dash (cases_Bool (bytes_eq text (codes "-"))))
    (ap ok (decode_of-encode_lower (be32 word) (word_bytes word)))
  where
    text : List ℕ
    text = encode_lower (be32 word)

    no_dash : (bytes_eq text (codes "-") ≡ true) ⊎ (bytes_eq text (codes "-") ≡ false)
        → bytes_eq text (codes "-") ≡ false
    no_dash (inl t) =
        absurd (omega (arith, ap (λ (l : List ℕ). length l) ((bytes_eq-Decides text (codes "-")).0 t)))
    no_dash (inr f) = f

pub word_short : (word : ℕ) → is_oversize (be32 word) ≡ false
unfolding be32
word_short word = refl
