use Rattle.std.proofs.Common.{ℕ, ◌<◌, ◌⊎◌, get_or, length}
use Rattle.cw_coding.specs.Digests.{IsOneOf}
use Rattle.cw_coding.proofs.hashing.others.Given as goal

abbrev pub invariant-loop-i : goal.invariant-loop-i
invariant-loop-i l = record {
  below : (t : ℕ) → t < length l.others.items → get_or l.others.items t 0 < l.total;
  all : (j : ℕ) → j < l.i → IsOneOf j l.listed ⊎ IsOneOf j l.others.items;
}
