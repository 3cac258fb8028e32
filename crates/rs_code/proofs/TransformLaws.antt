-- The transform's steps over numbers, by those over the tower.
use Rattle.std.proofs.Common.{◌≡◌, ℕ, zero, suc, ◌+◌, ◌*◌, ◌^◌, ◌<◌, ◌≤◌, bit_xor, refl, sym, ap, ap₂, ◌∙◌, subst, arith, add-one}
use Rattle.std.specs.Int.Bits.{xor_disjoint}
use Rattle.std.proofs.lemmas.Nat.{xor_block, pow_pos, and_le_l, and_le_r}
use Rattle.rs_code.specs.Field.{times, inverse}
use Rattle.rs_code.specs.Codeword.{codeword}
use Rattle.rs_code.specs.Transform.{by_next, vanishing, combined}
use Rattle.rs_code.proofs.Field.{of, the_field, of_times, of_xor, of_inverse, of_zero, of_one, same, times_fits, xor_fits}
use Rattle.rs_code.proofs.Codewords.{plus, mul, o, e, inv, of_through, through_fits}
use Rattle.rs_code.proofs.Tower as Tower
use Rattle.rs_code.proofs.VanishingSums as VanishingSums
use Rattle.rs_code.proofs.VanishingSums.{AreElements, double, next, value_same, value_through, low_values, high_values, vanishes, divisor}

-- ---- numbers as elements

pub xor_above : (t c i : ℕ) → i < 2 ^ t → bit_xor (c * 2 ^ t) i ≡ c * 2 ^ t + i
xor_above t c i h =
    let left : c * 2 ^ t ≡ c * 2 ^ t + 0 = omega arith in
    let right : i ≡ 0 * 2 ^ t + i = omega arith in
    ap₂ bit_xor left right ∙ xor_block t c 0 0 i (pow_pos t) h
    ∙ ap₂ (λ m n. m * 2 ^ t + n) (xor_none c) (none_xor i)
  where
    xor_none : (n : ℕ) → bit_xor n 0 ≡ n
    xor_none n = xor_disjoint n 0 (omega (arith, and_le_r n 0)) ∙ omega arith

    none_xor : (n : ℕ) → bit_xor 0 n ≡ n
    none_xor n = xor_disjoint 0 n (omega (arith, and_le_l 0 n)) ∙ omega arith

pub elements : AreElements plus o e 16 of
elements = record {
  at_zero = of_zero;
  at_one = of_one;
  at_sum = λ t c i h. ap of (sym (xor_above t c i h)) ∙ of_xor (c * 2 ^ t) i;
  distinct = λ i j hi hj equal. same i j hi hj equal;
}

abbrev pub vanish : ℕ → Tower.El 4 → Tower.El 4
vanish = VanishingSums.vanish plus mul o e inv the_field 16 of elements

abbrev pub value : ℕ → (ℕ → Tower.El 4) → Tower.El 4 → Tower.El 4
value = VanishingSums.value plus mul o e inv the_field 16 of elements

of_by_next : (y : ℕ) → of (by_next y) ≡ mul (of y) (plus (of y) e)
unfolding by_next
of_by_next y =
    of_times y (bit_xor y 1) ∙ ap (mul (of y)) (of_xor y 1 ∙ ap (plus (of y)) of_one)

pub of_vanishing : (t x : ℕ) → of (vanishing t x) ≡ vanish t (of x)
unfolding vanishing
of_vanishing zero x = refl
of_vanishing (suc t) x =
    of_times (by_next (vanishing t x)) (inverse (by_next (vanishing t (2 ^ suc t))))
    ∙ ap₂ mul (of_by_next (vanishing t x) ∙ ap (λ y. mul y (plus y e)) (of_vanishing t x))
    (of_inverse (by_next (vanishing t (2 ^ suc t)))
    ∙ ap inv
    (of_by_next (vanishing t (2 ^ suc t))
    ∙ ap (λ y. mul y (plus y e)) (of_vanishing t (2 ^ suc t))))

pub of_combined : (t : ℕ) (d : ℕ → ℕ) (x : ℕ) → of (combined t d x) ≡ value t (λ j. of (d j)) (of x)
unfolding combined
of_combined zero d x = refl
of_combined (suc t) d x =
    of_xor (combined t d x) (times (vanishing t x) (combined t (λ j. d (2 ^ t + j)) x))
    ∙ ap₂ plus (of_combined t d x)
    (of_times (vanishing t x) (combined t (λ j. d (2 ^ t + j)) x)
    ∙ ap₂ mul (of_vanishing t x) (of_combined t (λ j. d (2 ^ t + j)) x))

pub combined_fits : (t : ℕ) (d : ℕ → ℕ) (x : ℕ) → ((j : ℕ) → j < 2 ^ t → d j < 2 ^ 16)
    → combined t d x < 2 ^ 16
unfolding combined
combined_fits zero d x h = h 0 (omega arith)
combined_fits (suc t) d x h =
    xor_fits (combined t d x) _ (combined_fits t d x (λ j l. h j (omega (arith, l, double t))))
    (times_fits (vanishing t x) _)

-- ---- from a block to its halves

-- the coefficients for the block's first half
pub low_half : (t c : ℕ) (d a : ℕ → ℕ) → t < 16 → ((j : ℕ) → j < 2 ^ suc t → d j < 2 ^ 16) →
    ((j : ℕ) → j < 2 ^ t
    → a j ≡ bit_xor (d j) (times (vanishing t (c * 2 ^ suc t)) (d (2 ^ t + j)))) →
    (i : ℕ) → i < 2 ^ t → combined t a (2 * c * 2 ^ t + i) ≡ combined (suc t) d (c * 2 ^ suc t + i)
low_half t c d a small fits h i l =
    same _ _ (combined_fits t a _ a_fits) (combined_fits (suc t) d _ fits)
    (of_combined t a (2 * c * 2 ^ t + i)
    ∙ low_values plus mul o e inv the_field 16 of elements t c (λ j. of (d j)) (λ j. of (a j)) small
    of_step i l
    ∙ sym (of_combined (suc t) d (c * 2 ^ suc t + i)))
  where
    a_fits : (j : ℕ) → j < 2 ^ t → a j < 2 ^ 16
    a_fits j m =
        subst (λ (n : ℕ). n < 2 ^ 16) (sym (h j m))
        (xor_fits (d j) _ (fits j (omega (arith, m, double t))) (times_fits _ _))

    of_step : (j : ℕ) → j < 2 ^ t
        → of (a j) ≡ plus (of (d j)) (mul (vanish t (of (c * 2 ^ suc t))) (of (d (2 ^ t + j))))
    of_step j m =
        ap of (h j m) ∙ of_xor (d j) (times (vanishing t (c * 2 ^ suc t)) (d (2 ^ t + j)))
        ∙ ap (plus (of (d j)))
        (of_times (vanishing t (c * 2 ^ suc t)) (d (2 ^ t + j))
        ∙ ap (λ y. mul y (of (d (2 ^ t + j)))) (of_vanishing t (c * 2 ^ suc t)))

-- the coefficients for its second half
pub high_half : (t c : ℕ) (d a b : ℕ → ℕ) → t < 16 → ((j : ℕ) → j < 2 ^ suc t → d j < 2 ^ 16) →
    ((j : ℕ) → j < 2 ^ t
    → a j ≡ bit_xor (d j) (times (vanishing t (c * 2 ^ suc t)) (d (2 ^ t + j)))) →
    ((j : ℕ) → j < 2 ^ t → b j ≡ bit_xor (a j) (d (2 ^ t + j))) →
    (i : ℕ) → i < 2 ^ t →
    combined t b ((2 * c + 1) * 2 ^ t + i) ≡ combined (suc t) d (c * 2 ^ suc t + (2 ^ t + i))
high_half t c d a b small fits h g i l =
    same _ _ (combined_fits t b _ b_fits) (combined_fits (suc t) d _ fits)
    (of_combined t b ((2 * c + 1) * 2 ^ t + i)
    ∙ high_values plus mul o e inv the_field 16 of elements t c (λ j. of (d j)) (λ j. of (a j))
    (λ j. of (b j)) small of_step (λ j m. ap of (g j m) ∙ of_xor (a j) (d (2 ^ t + j))) i l
    ∙ sym (of_combined (suc t) d (c * 2 ^ suc t + (2 ^ t + i))))
  where
    a_fits : (j : ℕ) → j < 2 ^ t → a j < 2 ^ 16
    a_fits j m =
        subst (λ (n : ℕ). n < 2 ^ 16) (sym (h j m))
        (xor_fits (d j) _ (fits j (omega (arith, m, double t))) (times_fits _ _))

    b_fits : (j : ℕ) → j < 2 ^ t → b j < 2 ^ 16
    b_fits j m =
        subst (λ (n : ℕ). n < 2 ^ 16) (sym (g j m))
        (xor_fits (a j) _ (a_fits j m) (fits (2 ^ t + j) (omega (arith, m, double t))))

    of_step : (j : ℕ) → j < 2 ^ t
        → of (a j) ≡ plus (of (d j)) (mul (vanish t (of (c * 2 ^ suc t))) (of (d (2 ^ t + j))))
    of_step j m =
        ap of (h j m) ∙ of_xor (d j) (times (vanishing t (c * 2 ^ suc t)) (d (2 ^ t + j)))
        ∙ ap (plus (of (d j)))
        (of_times (vanishing t (c * 2 ^ suc t)) (d (2 ^ t + j))
        ∙ ap (λ y. mul y (of (d (2 ^ t + j)))) (of_vanishing t (c * 2 ^ suc t)))

-- ---- the code

-- where the coefficients from k on are zero and the values below k are the originals, the others
-- are those of the codeword
pub combined_codeword : (t k : ℕ) (d v : ℕ → ℕ) → k ≤ 2 ^ 16
    → ((j : ℕ) → j < 2 ^ t → d j < 2 ^ 16) → ((j : ℕ) → k ≤ j → j < 2 ^ t → d j ≡ 0) →
    ((i : ℕ) → i < k → combined t d i ≡ v i) → (x : ℕ) → combined t d x ≡ codeword k v x
unfolding codeword
combined_codeword t k d v small fits zeros values x =
    same _ _ (combined_fits t d x fits) (through_fits k (λ s. s) v x)
    (of_combined t d x
    ∙ value_through plus mul o e inv the_field 16 of elements t k (λ j. of (d j)) (λ s. of (v s))
    small (λ j g l. ap of (zeros j g l) ∙ of_zero)
    (λ i l. sym (of_combined t d i) ∙ ap of (values i l)) (of x)
    ∙ sym (of_through k (λ s. s) v x))

-- ---- the vanishing polynomials, one after the other

pub vanishing_none : (x : ℕ) → vanishing 0 x ≡ x
unfolding vanishing
vanishing_none x = refl

pub vanishing_more : (t x : ℕ) → vanishing (t + 1) x
    ≡ times (by_next (vanishing t x)) (inverse (by_next (vanishing t (2 ^ (t + 1)))))
unfolding vanishing
vanishing_more t x = rw add-one

pub by_next_is : (y : ℕ) → times y (bit_xor y 1) ≡ by_next y
unfolding by_next
by_next_is y = refl

-- none of them is 0 or 1 at the next power of two
pub divisor_nonzero : (t : ℕ) → t + 1 < 16 → by_next (vanishing t (2 ^ (t + 1))) ≡ 0 → ⊥
divisor_nonzero t small z =
    let next : t + 1 ≡ suc t = add-one t in
    let V = vanishes plus mul o e inv the_field 16 of elements t (omega (arith, small)) in
    divisor plus mul o e inv the_field 16 of elements t (omega (arith, small)) V.1 V.2
    (sym
    (of_by_next (vanishing t (2 ^ suc t))
    ∙ ap (λ y. mul y (plus y e)) (of_vanishing t (2 ^ suc t)))
    ∙ ap (λ (n : ℕ). of (by_next (vanishing t (2 ^ n)))) (sym next) ∙ ap of z ∙ of_zero)
