use Rattle.std.proofs.Common.{◌≡◌, take, true}
use Rattle.member_lines.specs.Ahead.{is_plain}
use Rattle.member_lines.proofs.input.feed_in.Given as goal

abbrev pub invariant-loop-at : goal.invariant-loop-at
invariant-loop-at l = is_plain (take l.at l.bytes) ≡ true
