-- Digests of rows.
use Rattle.std.specs.Prelude.{ℕ, ◌/◌, ◌<◌, ◌≡◌, List, length, slice_index, slice_index_or}
use Rattle.cw_base.specs.Rows.{row_of}

-- a number that a list has
abbrev pub IsOneOf : ℕ → List ℕ → Type 0
IsOneOf i numbers = (t : ℕ) × (t < length numbers) × (slice_index numbers t ≡ i)

-- the digests of the first n rows, in their order
pub record AreDigests {D : Type 0} (hash : List ℕ → D) (width : ℕ) (rows : List ℕ) (n : ℕ)
    (digests : List D) : Type 0 where
  pub count : length digests ≡ n
  pub each : (s : ℕ) (d : D) → s < n → slice_index_or digests s d ≡ hash (row_of rows width s)

-- the digests of the rows at these indices, in their order
pub record AreDigestsAt {D : Type 0} (hash : List ℕ → D) (width : ℕ) (rows : List ℕ)
    (indices : List ℕ) (digests : List D) : Type 0 where
  pub count : length digests ≡ length indices
  pub below : (t : ℕ) → t < length indices → slice_index indices t < length rows / width
  pub each : (t : ℕ) (d : D) → t < length indices
      → slice_index_or digests t d ≡ hash (row_of rows width (slice_index indices t))
