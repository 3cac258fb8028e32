use Rattle.std.proofs.Common.{◌≡◌, ◌++◌, take}
use Rattle.std.specs.Prelude.{string_bytes}
use Rattle.std.specs.List.{flat_map}
use Rattle.member_lines.specs.Answers.{send_line}
use Rattle.member_session.proofs.telling.put_sends.Given as goal

abbrev pub invariant-loop-one : goal.invariant-loop-one
invariant-loop-one l =
    string_bytes l.out ≡ string_bytes l.fn.out ++ flat_map send_line (take l.one-index l.sent)
