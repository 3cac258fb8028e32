use Rattle.std.proofs.Common.{◌≡◌, map, Ok}
use Rattle.rs_code.proofs.joining.all_done.Given as goal

-- the pieces so far
abbrev pub invariant-loop-piece : goal.invariant-loop-piece
invariant-loop-piece l = map Ok l.done.items ≡ l.yielded
