use Rattle.std.proofs.Common.{◌≡◌, map, take}
use Rattle.std.specs.List.{AllByRecursion}
use Rattle.hail_world.specs.Reports.{shown_report}
use Rattle.run_ledger.specs.Giving.{replica_payloads}
use Rattle.run_ledger.specs.Ledgers.{NeverFails}
use Rattle.run_ledger.proofs.giving.replicas_of.Given as goal

abbrev pub invariant-loop-acked : goal.invariant-loop-acked
invariant-loop-acked g l =
    (map (λ r. r.payloads) l.replicas
    ≡ map (replica_payloads (shown_report l.report))
    (map (λ a. a.member) (take l.acked-index l.report.acked)))
    × AllByRecursion NeverFails l.replicas
