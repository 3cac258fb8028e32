use Rattle.std.proofs.Common.{◌≡◌, ◌+◌, drop, map}
use Rattle.hail_script.specs.Grammar as grammar
use Rattle.hail_script.specs.Raw.{raw_line_of}
use Rattle.hail_script.proofs.Sequences.{behind}
use Rattle.hail_script.proofs.parse.events_of.Given as goal

-- what was read stands before the events of the lines from here on
abbrev pub invariant-loop-index : goal.invariant-loop-index
invariant-loop-index l =
    behind (map raw_line_of l.events)
    (grammar.events_from (l.index + l.first) (map (λ line. line.now) (drop l.index l.lines)))
    ≡ grammar.events_from l.first (map (λ line. line.now) l.lines)
