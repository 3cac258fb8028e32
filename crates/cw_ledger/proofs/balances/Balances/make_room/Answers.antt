use Rattle.std.proofs.Common.{◌<◌, ◌∙◌, get_or, length, subst, sym, take, arith}
use Rattle.std.proofs.lemmas.List.{take_more}
use Rattle.cw_ledger.specs.Kept.{HasRoom}
use Rattle.cw_ledger.specs.declared.transfer.Transfer.{Transfer}
use Rattle.cw_ledger.proofs.Moving.{room_more, room_stays}
use Rattle.cw_ledger.proofs.balances.Balances.make_room.Goals as goal

pub loop-transfer-preserved : goal.loop-transfer-preserved
loop-transfer-preserved c =
    let ts = c.args.transfers.now in
    let i = c.loop-transfer.transfer-index in
    let new = c.make_entry.new.self in
    let none : Transfer = record { from = 0; to = 0; amount = 0 } in
    let lt : i < length ts = omega arith in
    record {
      room =
          subst (HasRoom new) (sym (take_more ts i none lt))
          (room_more new (take i ts) (get_or ts i none)
          (room_stays c.loop-transfer.self new (take i ts) c.make_entry.ensures.stays
          c.loop-transfer.invariant.room)
          c.in_ok-make_entry.ensures.there);
      same = λ account. c.make_entry.ensures.same account ∙ c.loop-transfer.invariant.same account;
    }
