use Rattle.std.proofs.Common.{◌≡◌, ℕ, ◌<◌, length, get_or}
use Rattle.rs_code.proofs.split.places_among.Given as goal

-- the places so far
abbrev pub invariant-loop-s : goal.invariant-loop-s
invariant-loop-s l = record {
  count : length l.places.items ≡ l.total;
  here : (x : ℕ) → x < l.total → get_or l.places.items x 0 < length l.points
      → get_or l.points (get_or l.places.items x 0) 0 ≡ x;
  each : (s : ℕ) → s < l.s → get_or l.points s 0 < l.total
      → get_or l.places.items (get_or l.points s 0) 0 ≡ s;
}
