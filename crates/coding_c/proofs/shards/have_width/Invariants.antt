use Rattle.std.proofs.Common.{◌≡◌, ℕ, ◌<◌, length, map, get_or, []}
use Rattle.coding_c.proofs.shards.have_width.Given as goal

abbrev pub invariant-loop-i : goal.invariant-loop-i
invariant-loop-i l =
    (j : ℕ) → j < l.i → length (get_or (map (λ s. s.bytes.now) l.shards) j []) ≡ l.width
