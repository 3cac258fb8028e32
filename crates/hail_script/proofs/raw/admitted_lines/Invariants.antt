use Rattle.std.proofs.Common.{◌≡◌, map}
use Rattle.hail_script.specs.Raw.{raw_line_of}
use Rattle.hail_script.proofs.raw.admitted_lines.Given as goal

-- the lines so far
abbrev pub invariant-loop-line : goal.invariant-loop-line
invariant-loop-line l = l.events ≡ map raw_line_of l.yielded
