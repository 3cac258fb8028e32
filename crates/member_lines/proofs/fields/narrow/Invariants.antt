use Rattle.std.proofs.Common.{◌≡◌, take}
use Rattle.member_lines.proofs.fields.narrow.Given as goal

abbrev pub invariant-loop-number : goal.invariant-loop-number
invariant-loop-number l = l.members ≡ take l.number-index l.numbers
