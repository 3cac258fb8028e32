use Rattle.std.proofs.Common.{◌≡◌, ℕ, ◌<◌, bit_xor, length, get_or}
use Rattle.rs_code.proofs.row_lists.summed.Given as goal

-- the sums so far
abbrev pub invariant-loop-i : goal.invariant-loop-i
invariant-loop-i l = record {
  count : length l.sums.items ≡ l.i;
  each : (i : ℕ) → i < l.i
      → get_or l.sums.items i 0 ≡ bit_xor (get_or l.first i 0) (get_or l.second i 0);
}
