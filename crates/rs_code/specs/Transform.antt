-- Polynomials as sums of products of those that vanish on the elements below a power of two. By
-- their coefficients in such a sum the values at all elements are worked out together.
use Rattle.std.specs.Prelude.{ℕ, zero, suc, ◌+◌, ◌^◌, bit_xor}
use Rattle.rs_code.specs.Field.{times, inverse}

-- y * (y + 1), which is zero at 0 and at 1
unfoldable pub by_next : ℕ → ℕ
by_next y = times y (bit_xor y 1)

-- the polynomial of degree 2 ^ t that is 0 at each element below 2 ^ t, and 1 at 2 ^ t, at x
unfoldable pub vanishing : (t x : ℕ) → ℕ
vanishing zero x = x
vanishing (suc t) x =
    times (by_next (vanishing t x)) (inverse (by_next (vanishing t (2 ^ suc t))))

-- the sum over the j below 2 ^ t of coefficient j times the product of the vanishing polynomials of
-- the bits of j, at x
unfoldable pub combined : (t : ℕ) (coefficients : ℕ → ℕ) (x : ℕ) → ℕ
combined zero d x = d 0
combined (suc t) d x =
    bit_xor (combined t d x) (times (vanishing t x) (combined t (λ j. d (2 ^ t + j)) x))
