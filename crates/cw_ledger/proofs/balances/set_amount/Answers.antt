use Rattle.std.proofs.Common.{◌≡◌, ⊎_elim, true, false, ◌∙◌, sym}
use Rattle.cw_ledger.proofs.Sets.{stays_none}
use Rattle.cw_ledger.proofs.balances.set_amount.Goals as goal

pub returns-in-Err : goal.returns-in-Err
returns-in-Err c =
    stays_none c.args.map.now.entries c.put.new.map.entries c.args.account c.args.amount
    (⊎_elim (λ zero. zero)
    (λ there. absurd (let bad : true ≡ false = sym there ∙ c.in-Err.ensures.absent in cc))
    c.requires)
    c.in-Err.ensures.absent c.in-Err.ensures.err c.put.ensures.was_sorted
