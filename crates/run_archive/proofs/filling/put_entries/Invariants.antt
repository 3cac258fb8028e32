use Rattle.std.proofs.Common.{◌≡◌, take}
use Rattle.std.specs.List.{fold}
use Rattle.run_archive.specs.Program as spec
use Rattle.run_archive.proofs.filling.put_entries.Given as goal

abbrev pub invariant-loop-entry : goal.invariant-loop-entry
invariant-loop-entry g l =
    l.archive
    ≡ fold (spec.after_entry g.H.Hasher.digest_of) l.fn.archive (take l.entry-index l.entries)
