use Rattle.std.proofs.Common.{◌≡◌, ◌++◌, take}
use Rattle.std.specs.Prelude.{string_bytes}
use Rattle.std.specs.List.{flat_map}
use Rattle.hail_report.specs.Text as spec
use Rattle.hail_report.proofs.text.put_hands.Given as goal

abbrev pub invariant-loop-block : goal.invariant-loop-block
invariant-loop-block l =
    string_bytes l.out
    ≡ string_bytes l.fn.out ++ flat_map (spec.hand_line l.member) (take l.block-index l.handed)
