use Rattle.std.proofs.Common.{◌≡◌, ℕ, take}
use Rattle.cw_ledger.specs.Kept.{HasRoom, amount_in}
use Rattle.cw_ledger.specs.Transfers.{moved_all}
use Rattle.cw_ledger.proofs.balances.Balances.pass_all.Given as goal

abbrev pub invariant-loop-transfer : goal.invariant-loop-transfer
invariant-loop-transfer l = record {
  room : HasRoom l.self l.transfers;
  moved : (account : ℕ)
      → amount_in l.self account
      ≡ moved_all (amount_in l.initial.self) (take l.transfer-index l.transfers) account;
}
