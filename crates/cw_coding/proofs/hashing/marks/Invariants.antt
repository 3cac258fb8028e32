use Rattle.std.proofs.Common.{ℕ, ◌≡◌, false, get_or, length, true}
use Rattle.cw_coding.specs.Digests.{IsOneOf}
use Rattle.cw_coding.proofs.hashing.marks.Given as goal

abbrev pub invariant-loop-i : goal.invariant-loop-i
invariant-loop-i l = record {
  count : length l.marks.items ≡ l.total;
  marked : (j : ℕ) → get_or l.marks.items j false ≡ true → IsOneOf j l.listed;
}
