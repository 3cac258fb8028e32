use Rattle.std.proofs.Common.{◌≡◌, take}
use Rattle.std.specs.List.{fold}
use Rattle.run_archive.specs.Program as spec
use Rattle.run_archive.proofs.filling.put_sends.Given as goal

abbrev pub invariant-loop-sent : goal.invariant-loop-sent
invariant-loop-sent g l =
    l.archive
    ≡ fold (spec.after_sent g.H.Hasher.digest_of) l.fn.archive (take l.sent-index l.messages)
