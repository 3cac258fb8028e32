-- Tables of one factor's products.
use Rattle.std.proofs.Common.{◌≡◌, ℕ, ◌+◌, ◌-◌, ◌*◌, ◌/◌, ◌%◌, ◌<◌, ◌≤◌, ◌^◌, List, length, set, get_or, bit_xor, sym, ap, ap₂, ◌∙◌, arith, ⊎_elim, div-add-mod', get_or-set_same}
use Rattle.std.proofs.lemmas.Bool.{cases_lt}
use Rattle.std.specs.Int.Bits.{xor_zero_r}
use Rattle.rs_code.specs.Field.{times}
use Rattle.rs_code.proofs.Field.{is_field}
use Rattle.rs_code.proofs.WeightLaws.{times_zero, zero_times}
use Rattle.rs_code.proofs.LaneLaws.{product_above, by_bytes}

-- a table with twice as many entries
pub twice_as_many : (olds news : List ℕ) (factor step n count : ℕ) → factor < 2 ^ 16
    → count ≡ 2 ^ n → count ≤ 128 →
    ((b : ℕ) → b < count → get_or news b 0 ≡ get_or olds b 0) →
    ((b : ℕ) → b < count → get_or news (count + b) 0 ≡ bit_xor (get_or olds b 0) step) →
    step ≡ times factor count →
    ((b : ℕ) → b < count → get_or olds b 0 ≡ times factor b) →
    (b : ℕ) → b < 2 * count → get_or news b 0 ≡ times factor b
twice_as_many olds news factor step n count fits power small first second is_step before b hb =
    ⊎_elim
    (λ low. first b low ∙ before b low)
    (λ high.
    let d : ℕ = b - count in
    let whole : b ≡ count + d = omega (arith, high) in
    let below : d < count = omega (arith, high, hb) in
    ap (λ (x : ℕ). get_or news x 0) whole ∙ second d below
    ∙ ap₂ bit_xor (before d below) is_step
    ∙ product_above factor n count d fits power small below
    ∙ ap (times factor) (sym whole))
    (cases_lt b count)

-- the product with a symbol
pub by_tables : (low high : List ℕ) (factor upper symbol : ℕ) → factor < 2 ^ 16 → symbol < 2 ^ 16
    → upper ≡ times factor 256 →
    ((b : ℕ) → b < 256 → get_or low b 0 ≡ times factor b) →
    ((b : ℕ) → b < 256 → get_or high b 0 ≡ times upper b) →
    bit_xor (get_or high (symbol / 256) 0) (get_or low (symbol % 256) 0) ≡ times factor symbol
by_tables low high factor upper symbol fits small is_upper lows highs =
    let above : symbol / 256 < 256 = omega (arith, small) in
    let below : symbol % 256 < 256 = omega arith in
    ap₂ bit_xor
    (highs (symbol / 256) above ∙ ap (λ (x : ℕ). times x (symbol / 256)) is_upper)
    (lows (symbol % 256) below)
    ∙ by_bytes factor (symbol / 256) (symbol % 256) fits above below
    ∙ ap (λ (x : ℕ). times x factor) (div-add-mod' symbol 256)
    ∙ is_field.product_comm symbol factor small fits

-- a table's entry of 0
pub first_entry : (table : List ℕ) (factor : ℕ) → 1 ≤ length table → (b : ℕ) → b < 1
    → get_or (set table 0 0) b 0 ≡ times factor b
first_entry table factor some b h =
    let none : b ≡ 0 = omega (arith, h) in
    ap (λ (n : ℕ). get_or (set table 0 0) n 0) none ∙ get_or-set_same table 0 0 0 some
    ∙ sym (times_zero factor) ∙ ap (times factor) (sym none)

-- the factor 0 adds nothing
pub by_nothing : (sum factor symbol : ℕ) → factor ≡ 0 → bit_xor sum (times factor symbol) ≡ sum
by_nothing sum factor symbol h =
    ap (bit_xor sum) (ap (λ (f : ℕ). times f symbol) h ∙ zero_times symbol) ∙ xor_zero_r sum

-- the product with the symbol 0 adds nothing
pub of_nothing : (sum factor symbol : ℕ) → symbol ≡ 0 → bit_xor sum (times factor symbol) ≡ sum
of_nothing sum factor symbol h =
    ap (bit_xor sum) (ap (times factor) h ∙ times_zero factor) ∙ xor_zero_r sum
