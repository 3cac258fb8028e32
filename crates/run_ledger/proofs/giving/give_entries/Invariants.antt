use Rattle.std.proofs.Common.{◌≡◌, take}
use Rattle.run_ledger.specs.Giving.{given_all}
use Rattle.run_ledger.specs.Ledgers.{NeverFails, handed_in_entries}
use Rattle.run_ledger.proofs.giving.give_entries.Given as goal

abbrev pub invariant-loop-entry : goal.invariant-loop-entry
invariant-loop-entry l =
    (l.replica.payloads
    ≡ given_all l.chain l.initial.replica.payloads
    (handed_in_entries l.member (take l.entry-index l.entries)))
    × NeverFails l.replica
