use Rattle.std.proofs.Common.{◌≡◌, [], map}
use Rattle.std.specs.List.{range_with_len}
use Rattle.hail_script.specs.Grammar as grammar
use Rattle.hail_script.proofs.parse.unmarked.Given as goal

abbrev pub invariant-loop-member : goal.invariant-loop-member
invariant-loop-member l = l.marks.items ≡ map (grammar.is_faulty_in []) (range_with_len 0 l._member)
