use Rattle.std.proofs.Common.{◌≡◌, ◌++◌}
use Rattle.cw_ledger.proofs.Holders.{held_in}
use Rattle.cw_ledger.proofs.balances.Balances.holdings.Given as goal

abbrev pub invariant-loop-account : goal.invariant-loop-account
invariant-loop-account l = l.found.items ++ held_in l.account-iterator ≡ held_in l.self
