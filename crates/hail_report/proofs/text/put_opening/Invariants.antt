use Rattle.std.proofs.Common.{◌≡◌, ◌++◌, take}
use Rattle.std.specs.Prelude.{string_bytes}
use Rattle.std.specs.List.{flat_map}
use Rattle.hail_report.specs.Text as spec
use Rattle.hail_report.proofs.text.put_opening.Given as goal

abbrev pub invariant-loop-entry : goal.invariant-loop-entry
invariant-loop-entry g l =
    string_bytes l.out
    ≡ string_bytes l.fn.out
    ++ flat_map (spec.opening_text g.H.Hasher.digest_of) (take l.entry-index l.entries)
