use Rattle.std.proofs.Common.{◌≡◌, ◌*◌, ◌∷◌, [], ◌++◌, ℕ, List, drop, length, length-drop, map, take, ap, sym, ◌∙◌, arith}
use Rattle.std.specs.List.{range_with_len}
use Rattle.std.proofs.lemmas.List.FromFn.{map-range_with_len_more}
use Rattle.std.proofs.lemmas.List.{take_all}
use Rattle.cw_ledger.specs.declared.transfer.Transfer.{Transfer}
use Rattle.cw_ledger.specs.Transfers.{transfer_at}
use Rattle.cw_ledger.proofs.transfer.transfers_of.Goals as goal

pub loop-index-preserved : goal.loop-index-preserved
loop-index-preserved c =
    let f : ℕ → Transfer = λ i. transfer_at (drop (i * 16) c.args.payload.now) in
    let k : ℕ = c.loop-index.index * 16 in
    let at : c.at.result ≡ transfer_at (drop k c.args.payload.now) =
    c.at.ensures
    ∙ ap (λ (n : ℕ). transfer_at (take n (drop k c.args.payload.now)))
    (sym (length-drop k c.args.payload.now))
    ∙ ap transfer_at
    (take_all (length (drop k c.args.payload.now)) (drop k c.args.payload.now)
    (omega arith)) in
    c.in_ok-push.ensures.items
    ∙ ap (λ (ts : List Transfer). ts ++ c.at.result ∷ []) c.loop-index.invariant
    ∙ ap (λ (t : Transfer). map f (range_with_len 0 c.loop-index.index) ++ t ∷ []) at
    ∙ sym (map-range_with_len_more f 0 c.loop-index.index c.loop-index.index (omega arith))
