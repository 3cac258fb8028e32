use Rattle.std.proofs.Common.{◌≡◌, drop}
use Rattle.std.specs.List.{list_all}
use Rattle.hail_script.specs.Admission as admission
use Rattle.hail_script.proofs.parse.bears_all.Given as goal

-- the lists from here on decide
abbrev pub invariant-loop-list : goal.invariant-loop-list
invariant-loop-list l =
    list_all (admission.marks_bear l.marks) (drop l.list-index l.list-items)
    ≡ list_all (admission.marks_bear l.marks) l.committees.lists
