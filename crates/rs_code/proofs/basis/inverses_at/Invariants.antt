use Rattle.std.proofs.Common.{◌≡◌, ◌≢◌, ℕ, ◌<◌, length, get_or}
use Rattle.rs_code.specs.Field.{inverse}
use Rattle.rs_code.proofs.basis.inverses_at.Given as goal

-- the inverses so far
abbrev pub invariant-loop-i : goal.invariant-loop-i
invariant-loop-i l = record {
  count : length l.inverses.items ≡ l.i;
  each : (i : ℕ) → i < l.i → get_or l.distances.items i 0 ≢ 0
      → get_or l.inverses.items i 0 ≡ inverse (get_or l.distances.items i 0);
}
