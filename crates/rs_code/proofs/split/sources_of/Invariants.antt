use Rattle.std.proofs.Common.{◌≡◌, ℕ, ◌+◌, ◌<◌, ◌≤◌, ◌++◌, All, length, get_or}
use Rattle.rs_code.proofs.split.sources_of.Given as goal

-- the targets so far
abbrev pub invariant-loop-i : goal.invariant-loop-i
invariant-loop-i l = record {
  few : length l.missing.items ≤ l.i;
  count : length l.places.items ≡ l.i;
  below : All (λ target. target < l.total) l.missing.items;
  within : (i : ℕ) → i < l.i
      → get_or l.places.items i 0 < length l.points + length l.missing.items;
  each : (i : ℕ) → i < l.i
      → get_or (l.points ++ l.missing.items) (get_or l.places.items i 0) 0 ≡ get_or l.targets i 0;
  given : (s i : ℕ) → s < length l.points → i < l.i → get_or l.points s 0 ≡ get_or l.targets i 0
      → get_or l.places.items i 0 ≡ s;
}
