use Rattle.std.proofs.Common.{◌≡◌, ◌++◌, take}
use Rattle.std.specs.Prelude.{string_bytes}
use Rattle.member_lines.specs.Answers.{members_text}
use Rattle.member_lines.proofs.answer.put_members.Given as goal

abbrev pub invariant-loop-member : goal.invariant-loop-member
invariant-loop-member l =
    string_bytes l.out
    ≡ string_bytes l.fn.out ++ members_text (take l.member-index l.members)
