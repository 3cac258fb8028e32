use Rattle.std.proofs.Common.{◌≡◌, ℕ, take}
use Rattle.cw_ledger.specs.Kept.{HasRoom, amount_in}
use Rattle.cw_ledger.proofs.balances.Balances.make_room.Given as goal

abbrev pub invariant-loop-transfer : goal.invariant-loop-transfer
invariant-loop-transfer l = record {
  room : HasRoom l.self (take l.transfer-index l.transfers);
  same : (account : ℕ) → amount_in l.self account ≡ amount_in l.initial.self account;
}
