use Rattle.std.proofs.Common.{◌≡◌, ◌++◌, map, take}
use Rattle.std.specs.Prelude.{string_bytes}
use Rattle.std.specs.List.{flat_map}
use Rattle.node_disk.specs.Host.{told_of}
use Rattle.member_session.specs.Told.{call_line}
use Rattle.member_session.proofs.telling.put_calls.Given as goal

abbrev pub invariant-loop-call : goal.invariant-loop-call
invariant-loop-call l =
    string_bytes l.out
    ≡ string_bytes l.fn.out ++ flat_map call_line (map told_of (take l.call-index l.calls))
