use Rattle.std.proofs.Common.{◌≡◌, ◌++◌, take}
use Rattle.std.specs.Prelude.{string_bytes}
use Rattle.std.specs.List.{flat_map}
use Rattle.hail_report.specs.Text as spec
use Rattle.hail_report.proofs.text.put_sends.Given as goal

abbrev pub invariant-loop-sent : goal.invariant-loop-sent
invariant-loop-sent g l =
    string_bytes l.out
    ≡ string_bytes l.fn.out
    ++ flat_map (spec.sent_line g.H.Hasher.digest_of) (take l.sent-index l.messages)
