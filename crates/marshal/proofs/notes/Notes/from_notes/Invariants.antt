use Rattle.std.proofs.Common.{◌≡◌}
use Rattle.marshal.proofs.notes.Notes.from_notes.Given as goal

abbrev pub invariant-loop-note : goal.invariant-loop-note
invariant-loop-note g l = l.all ≡ l.yielded
