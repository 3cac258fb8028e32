use Rattle.std.proofs.Common.{◌≡◌, ◌+◌, drop, map}
use Rattle.hail_script.specs.Grammar as grammar
use Rattle.hail_script.specs.Raw.{raw_line_of}
use Rattle.hail_script.proofs.parse.first_oversize.Given as goal

-- the events from here on decide
abbrev pub invariant-loop-index : goal.invariant-loop-index
invariant-loop-index l =
    grammar.first_at grammar.names_oversize (l.index + l.first)
    (map raw_line_of (drop l.index l.events))
    ≡ grammar.first_at grammar.names_oversize l.first (map raw_line_of l.events)
