use Rattle.std.proofs.Common.{◌≡◌, map, take}
use Rattle.run_ledger.specs.Giving.{given_all}
use Rattle.run_ledger.specs.Ledgers.{NeverFails}
use Rattle.run_ledger.proofs.giving.give_handed.Given as goal

abbrev pub invariant-loop-block : goal.invariant-loop-block
invariant-loop-block l =
    (l.replica.payloads
    ≡ given_all l.chain l.initial.replica.payloads
    (map (λ h. h.height) (take l.block-index l.handed)))
    × NeverFails l.replica
