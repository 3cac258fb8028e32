use Rattle.std.proofs.Common.{ℕ, ◌<◌, ◌≤◌, length, map, get_or, []}
use Rattle.coding_c.proofs.shards.have_room.Given as goal

abbrev pub invariant-loop-i : goal.invariant-loop-i
invariant-loop-i l =
    (j : ℕ) → j < l.i → l.width ≤ length (get_or (map (λ b. b.bytes.now) l.buffers) j [])
