use Rattle.std.proofs.Common.{◌≡◌, ℕ, ◌<◌, get_or}
use Rattle.rs_code.specs.Coefficients.{lane, half}
use Rattle.rs_code.proofs.pairs.put_first_lanes.Given as goal

-- the entries so far
abbrev pub invariant-loop-place : goal.invariant-loop-place
invariant-loop-place l =
    (b i : ℕ) → b < l.place → i < 2 → half (get_or l.words b 0) i ≡ lane l.table b i
