use Rattle.std.proofs.Common.{◌≡◌, ℕ, Bool, List, drop}
use Rattle.cw_types.specs.Block.{Block}
use Rattle.cw_rules.specs.Accepted.{first_some}
use Rattle.cw_rules.specs.Step.{Member, member_notes}
use Rattle.cw_rules_coded.specs.Coded.{coded}
use Rattle.hail_world.specs.Reports.{HoldNotes}
use Rattle.run_light.specs.Finding.{first_shown, found_in}
use Rattle.run_light.proofs.search.found_in.Given as goal

-- the members from here on decide
abbrev pub invariant-loop-disk : goal.invariant-loop-disk
invariant-loop-disk g l =
    (backlog : ℕ) (accepts : Block → Block → Bool) (members : List Member)
    → HoldNotes members l.disks
    → first_some
    (λ (m : Member). first_shown (coded g.H.Hasher.digest_of l.committees backlog accepts)
    (g.V.Verifier.signs l.verifier) l.height (member_notes m))
    (drop l.disk-index members)
    ≡ found_in (coded g.H.Hasher.digest_of l.fn.committees backlog accepts)
    (g.V.Verifier.signs l.fn.verifier) l.fn.height members
