use Rattle.std.proofs.Common.{◌≡◌, ℕ, List, [], ◌++◌, ap, sym, ◌∙◌, append-nil}
use Rattle.std.specs.Map.Iter.{deref_pair}
use Rattle.std.proofs.lemmas.Map.Iter.{rest_all}
use Rattle.cw_ledger.specs.Kept.{amount_in}
use Rattle.cw_ledger.specs.Transfers.{holdings}
use Rattle.cw_ledger.proofs.Holders.{held_in, holdings_are}
use Rattle.cw_ledger.proofs.balances.Balances.holdings.Goals as goal

pub returns : goal.returns
returns c =
    let none : c.loop-account.account-iterator ≡ [] =
    rest_all deref_pair _ _ _ c.in-None.is c.next.ensures.steps in
    sym (append-nil c.loop-account.found.items)
    ∙ ap (λ (es : List (ℕ × ℕ)). c.loop-account.found.items ++ held_in es) (sym none)
    ∙ c.loop-account.invariant
    ∙ ap held_in (sym c.self.view_is)
    ∙ sym (holdings_are c.self.inside.map.entries c.self.invariant)
    ∙ ap (λ (es : List (ℕ × ℕ)). holdings (amount_in es)) c.self.view_is
