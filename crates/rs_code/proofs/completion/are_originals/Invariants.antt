use Rattle.std.proofs.Common.{ℕ, ◌<◌, get_or}
use Rattle.rs_code.proofs.completion.are_originals.Given as goal

-- the targets so far
abbrev pub invariant-loop-i : goal.invariant-loop-i
invariant-loop-i l = (i d : ℕ) → i < l.i → get_or l.targets i d < l.k
