use Rattle.std.proofs.Common.{◌≡◌, ℕ, ◌+◌, ◌<◌, length, get_or}
use Rattle.rs_code.proofs.lanes.put_eight.Given as goal

-- the lanes so far are written
abbrev pub invariant-loop-lane : goal.invariant-loop-lane
invariant-loop-lane l = record {
  count : length l.elements ≡ length l.fn.elements;
  before : (i : ℕ) → i < l.done → get_or l.elements i 0 ≡ get_or l.fn.elements i 0;
  written : (i : ℕ) → i < l.lane → get_or l.elements (l.done + i) 0 ≡ get_or l.own i 0;
}
