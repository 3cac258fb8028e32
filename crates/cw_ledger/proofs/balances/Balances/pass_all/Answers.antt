use Rattle.std.proofs.Common.{◌<◌, ◌∙◌, ◌∷◌, [], List, ap, get_or, length, sym, take, arith}
use Rattle.std.proofs.lemmas.List.{take_more}
use Rattle.cw_ledger.specs.Kept.{amount_in}
use Rattle.cw_ledger.specs.Transfers.{moved_all}
use Rattle.cw_ledger.specs.declared.transfer.Transfer.{Transfer}
use Rattle.cw_ledger.proofs.Moving.{moved_more, moved_same, room_at, room_stays}
use Rattle.cw_ledger.proofs.balances.Balances.pass_all.Goals as goal

pub pass-requires : goal.pass-requires
pass-requires c =
    let ts = c.args.transfers.now in
    let i = c.loop-transfer.transfer-index in
    let lt : i < length ts = omega arith in
    room_at c.loop-transfer.self ts i (record {
      from = 0;
      to = 0;
      amount = 0;
    }) lt c.loop-transfer.invariant.room

pub loop-transfer-preserved : goal.loop-transfer-preserved
loop-transfer-preserved c =
    let ts = c.args.transfers.now in
    let i = c.loop-transfer.transfer-index in
    let none : Transfer = record { from = 0; to = 0; amount = 0 } in
    let has = amount_in c.args.self.now in
    let lt : i < length ts = omega arith in
    record {
      room =
          room_stays c.loop-transfer.self c.pass.new.self ts c.pass.ensures.stays
          c.loop-transfer.invariant.room;
      moved = λ account.
          c.pass.ensures.moved account
          ∙ moved_same (amount_in c.loop-transfer.self) (moved_all has (take i ts))
          (get_or ts i none) c.loop-transfer.invariant.moved account
          ∙ sym
          (ap (λ (l : List Transfer). moved_all has l account) (take_more ts i none lt)
          ∙ moved_more has (take i ts) (get_or ts i none ∷ []) account);
    }
