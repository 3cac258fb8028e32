use Rattle.std.proofs.Common.{◌≡◌, ◌*◌, drop, map}
use Rattle.std.specs.List.{range_with_len}
use Rattle.cw_ledger.specs.Transfers.{transfer_at}
use Rattle.cw_ledger.proofs.transfer.transfers_of.Given as goal

abbrev pub invariant-loop-index : goal.invariant-loop-index
invariant-loop-index l =
    l.found.items ≡ map (λ i. transfer_at (drop (i * 16) l.fn.payload)) (range_with_len 0 l.index)
