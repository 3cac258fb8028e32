-- Which rows are made of given rows.
use Rattle.std.specs.Prelude.{ℕ, ◌+◌, ◌/◌, ◌≤◌, List, length, slice_index, ⊤}
use Rattle.rs_code.specs.declared.recipe.Recipe.{Recipe}
use Rattle.rs_code.specs.declared.recipe.Recipe.TheVariants.{ByWeights, Transformed}
use Rattle.rs_code.specs.Codeword.{codeword}
use Rattle.rs_code.specs.Coefficients.{symbol_through}
use Rattle.rs_code.specs.Rows.{symbol, symbol_bytes}

-- how many rows are given
abbrev pub given_count : Recipe → ℕ
given_count (ByWeights basis targets) = length basis.now
given_count (Transformed k m) = k

-- how many rows are made
abbrev pub made_count : Recipe → ℕ
made_count (ByWeights basis targets) = length targets.now
made_count (Transformed k m) = m

-- each row has an element of its own
abbrev pub FitsField : Recipe → Type 0
FitsField (ByWeights basis targets) = ⊤
FitsField (Transformed k m) = k + m ≤ 65535

-- the symbol in column j of row i of those that are made
abbrev pub made_symbol : Recipe → (rows : List ℕ) (width i j : ℕ) → ℕ
made_symbol (ByWeights basis targets) rows width i j =
    symbol_through basis.now rows width (slice_index targets.now i) j
made_symbol (Transformed k m) rows width i j = codeword k (λ s. symbol rows width s j) (k + i)

-- row i of those that are made
abbrev pub made_row : Recipe → (rows : List ℕ) (width i : ℕ) → List ℕ
made_row recipe rows width i = symbol_bytes (width / 2) (made_symbol recipe rows width i)
