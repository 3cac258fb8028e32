use Rattle.std.proofs.Common.{◌≡◌, ◌+◌, drop}
use Rattle.hail_script.specs.Grammar as grammar
use Rattle.hail_script.proofs.parse.first_strange.Given as goal

-- the lists from here on decide
abbrev pub invariant-loop-index : goal.invariant-loop-index
invariant-loop-index l =
    grammar.first_at (grammar.has_stranger l.total) (l.index + 2) (drop l.index l.lists)
    ≡ grammar.first_at (grammar.has_stranger l.total) 2 l.lists
