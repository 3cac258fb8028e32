use Rattle.std.proofs.Common.{◌≡◌, take}
use Rattle.hail_script.proofs.parse.narrow.Given as goal

abbrev pub invariant-loop-member : goal.invariant-loop-member
invariant-loop-member l = l.members.items ≡ take l.member-index l.list
