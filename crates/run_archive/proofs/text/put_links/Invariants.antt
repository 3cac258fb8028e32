use Rattle.std.proofs.Common.{◌≡◌, ◌++◌, take}
use Rattle.std.specs.Prelude.{string_bytes}
use Rattle.std.specs.List.{flat_map}
use Rattle.run_archive.specs.Program as spec
use Rattle.run_archive.proofs.text.put_links.Given as goal

abbrev pub invariant-loop-link : goal.invariant-loop-link
invariant-loop-link g l =
    string_bytes l.out
    ≡ string_bytes l.fn.out
    ++ flat_map (spec.link_line g.H.Hasher.digest_of l.committees l.archive)
    (take l.link-index l.links)
