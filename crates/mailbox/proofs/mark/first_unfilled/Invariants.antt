use Rattle.std.proofs.Common.{◌≡◌, ◌<◌, ℕ, true, get_or}
use Rattle.mailbox.specs.Marks.{is_filled}
use Rattle.mailbox.specs.declared.mark.Mark.TheVariants.{Empty}
use Rattle.mailbox.proofs.mark.first_unfilled.Given as goal

abbrev pub invariant-loop-i : goal.invariant-loop-i
invariant-loop-i l = (k : ℕ) → k < l.i → is_filled (get_or l.marks k Empty) ≡ true
