use Rattle.std.proofs.Common.{◌≡◌, ℕ, ◌<◌, length, get_or, take}
use Rattle.rs_code.specs.Completions.{given_originals, given_recoveries}
use Rattle.rs_code.proofs.split.split_of.Given as goal

-- the indices so far
abbrev pub invariant-loop-s : goal.invariant-loop-s
invariant-loop-s l = record {
  originals : l.originals.items ≡ given_originals l.k (take l.s l.points);
  recoveries : l.recoveries.items ≡ given_recoveries l.k (take l.s l.points);
  count : length l.spots.items ≡ length l.recoveries.items;
  within : (j : ℕ) → j < length l.spots.items → get_or l.spots.items j 0 < length l.points;
  each : (j : ℕ) → j < length l.spots.items
      → get_or l.points (get_or l.spots.items j 0) 0 ≡ get_or l.recoveries.items j 0;
}
