use Rattle.std.proofs.Common.{◌≡◌, map, take}
use Rattle.hail_script.specs.Grammar as grammar
use Rattle.hail_script.specs.Raw.{raw_line_of}
use Rattle.hail_script.proofs.parse.marks_of.Given as goal

-- those are marked whom the lines so far make faulty
abbrev pub invariant-loop-event : goal.invariant-loop-event
invariant-loop-event l =
    l.marks.items ≡ grammar.faulty_marks (map raw_line_of (take l.event-index l.events)) l.total
