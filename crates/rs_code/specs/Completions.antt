-- What a codeword is completed by: where the rows stand, and what they are multiplied by.
use Rattle.std.specs.Prelude.{◌≡◌, ℕ, ◌+◌, ◌<◌, ◌≤◌, not, nat_lt, List, ◌++◌, length, slice_index}
use Rattle.std.specs.List.{filter}
use Rattle.rs_code.specs.declared.completion.Parts.{Parts}
use Rattle.rs_code.specs.Coefficients.{distance}
use Rattle.rs_code.specs.Field.{inverse}
use Rattle.rs_code.specs.Indices.{AreSound}

-- the indices of originals among those of the rows given, and the others
abbrev pub given_originals : (k : ℕ) (points : List ℕ) → List ℕ
given_originals k points = filter (λ x. nat_lt x k) points

abbrev pub given_recoveries : (k : ℕ) (points : List ℕ) → List ℕ
given_recoveries k points = filter (λ x. not (nat_lt x k)) points

-- the product of the differences of x to the originals that are given
unfoldable pub apart : (k : ℕ) (points : List ℕ) (x : ℕ) → ℕ
apart k points x =
    distance (length (given_originals k points)) (λ u. slice_index (given_originals k points) u) x

-- indices of k different rows of a codeword of k originals and m recoveries
pub record AreCompletable (k m : ℕ) (points : List ℕ) : Type 0 where
  pub originals : 1 ≤ k
  pub recoveries : 1 ≤ m
  pub total : k + m ≤ 65535
  pub count : length points ≡ k
  pub sound : AreSound (k + m) points

-- where the recoveries stand among the rows given
pub record AreSpots (k : ℕ) (points spots : List ℕ) : Type 0 where
  pub count : length spots ≡ length (given_recoveries k points)
  pub within : (j : ℕ) → j < length spots → slice_index spots j < length points
  pub each : (j : ℕ) → j < length spots
      → slice_index points (slice_index spots j) ≡ slice_index (given_recoveries k points) j

-- where n rows are taken from: the row at target i stands at place i among the rows given and,
-- behind them, the missing ones, and among those given if it is one of them
pub record AreSources (n : ℕ) (target : ℕ → ℕ) (points missing places : List ℕ) : Type 0 where
  pub few : length missing ≤ n
  pub count : length places ≡ n
  pub within : (i : ℕ) → i < n → slice_index places i < length points + length missing
  pub each : (i : ℕ) → i < n → slice_index (points ++ missing) (slice_index places i) ≡ target i
  pub given : (s i : ℕ) → s < length points → i < n → slice_index points s ≡ target i
      → slice_index places i ≡ s

-- the parts of a completion by the rows at these points
pub record ArePartsOf (k : ℕ) (points : List ℕ) (parts : Parts) : Type 0 where
  pub sources : AreSources k (λ x. x) points parts.missing.items parts.sources.items
  pub spots : AreSpots k points parts.spots.items
  pub recoveries : parts.recoveries.items ≡ given_recoveries k points
  pub scale_count : length parts.scales.items ≡ length (given_recoveries k points)
  pub scales : (j : ℕ) → j < length (given_recoveries k points)
      → slice_index parts.scales.items j
      ≡ inverse (apart k points (slice_index (given_recoveries k points) j))
  pub distance_count : length parts.distances.items ≡ length parts.missing.items
  pub distances : (j : ℕ) → j < length parts.missing.items
      → slice_index parts.distances.items j ≡ apart k points (slice_index parts.missing.items j)
