use Rattle.std.proofs.Common.{◌≡◌, take}
use Rattle.rs_code.proofs.split.as_places.Given as goal

-- the places so far
abbrev pub invariant-loop-index : goal.invariant-loop-index
invariant-loop-index l = l.places.items ≡ take l.index-index l.indices
