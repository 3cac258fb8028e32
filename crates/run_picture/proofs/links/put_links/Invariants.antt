use Rattle.std.proofs.Common.{◌≡◌, ◌++◌, drop}
use Rattle.std.specs.Prelude.{string_bytes}
use Rattle.run_picture.specs.Links as spec
use Rattle.run_picture.proofs.links.put_links.Given as goal

abbrev pub invariant-loop-at : goal.invariant-loop-at
invariant-loop-at l =
    string_bytes l.out ++ spec.links_from l.y l.first l.at (drop l.at l.links)
    ≡ string_bytes l.fn.out ++ spec.links_from l.y l.first 0 l.links
