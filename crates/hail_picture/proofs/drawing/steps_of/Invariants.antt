use Rattle.std.proofs.Common.{◌≡◌, ◌++◌, drop}
use Rattle.hail_picture.specs.Drawing as spec
use Rattle.hail_picture.proofs.drawing.steps_of.Given as goal

-- what is there so far, and the steps of what is left
abbrev pub invariant-loop-line : goal.invariant-loop-line
invariant-loop-line l =
    l.steps.items ++ spec.steps_of (drop l.line-index l.lines) l.rest
    ≡ spec.steps_of l.lines l.entries
