-- Columns of rows of symbols, where rows of n symbols stand end to end; and what makes each
-- vanishing polynomial of the one before.
use Rattle.std.specs.Prelude.{◌≡◌, ℕ, ◌+◌, ◌*◌, ◌<◌, ◌^◌, List, slice_index}
use Rattle.rs_code.specs.Field.{inverse}
use Rattle.rs_code.specs.Transform.{by_next, vanishing}

-- the symbol in column j of row i
unfoldable pub entry : (rows : List ℕ) (n i j : ℕ) → ℕ
entry rows n i j = slice_index rows (i * n + j)

-- the first divisors are inverted
abbrev pub AreScales : (count : ℕ) (scales : List ℕ) → Type 0
AreScales count scales =
    (t : ℕ) → t < count → slice_index scales t ≡ inverse (by_next (vanishing t (2 ^ (t + 1))))
