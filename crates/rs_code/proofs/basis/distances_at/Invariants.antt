use Rattle.std.proofs.Common.{◌≡◌, ℕ, ◌*◌, ◌<◌, length, get_or}
use Rattle.rs_code.specs.Coefficients.{distance}
use Rattle.rs_code.proofs.basis.distances_at.Given as goal

-- the distances so far
abbrev pub invariant-loop-group : goal.invariant-loop-group
invariant-loop-group l = record {
  count : length l.distances.items ≡ length l.targets;
  each : (i : ℕ) → i < 8 * l.group → i < length l.targets
      → get_or l.distances.items i 0
      ≡ distance (length l.points) (λ u. get_or l.points u 0) (get_or l.targets i 0);
}
