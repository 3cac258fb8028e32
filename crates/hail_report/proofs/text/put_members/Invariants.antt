use Rattle.std.proofs.Common.{◌≡◌, ◌++◌, take}
use Rattle.std.specs.Prelude.{string_bytes}
use Rattle.std.specs.List.{flat_map}
use Rattle.hail_report.specs.Text as spec
use Rattle.hail_report.proofs.text.put_members.Given as goal

abbrev pub invariant-loop-member : goal.invariant-loop-member
invariant-loop-member l =
    string_bytes l.out
    ≡ string_bytes l.fn.out ++ flat_map spec.member_line (take l.member-index l.members)
