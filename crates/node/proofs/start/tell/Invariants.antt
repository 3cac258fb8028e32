use Rattle.std.proofs.Common.{◌≡◌, ◌++◌, take}
use Rattle.node.proofs.start.tell.Given as goal

abbrev pub invariant-loop-note : goal.invariant-loop-note
invariant-loop-note g l =
    l.tally ≡ record l.initial.tally { notes = l.initial.tally.notes ++ take l.note-index l.notes }
