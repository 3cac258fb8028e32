use Rattle.std.proofs.Common.{◌≡◌, ◌⊎◌, ◌≤◌, ◌+◌, ◌-◌, inr, ℕ, List, true, sym, subst, arith}
use Rattle.cw_ledger.specs.Kept.{IsSet, amount_in, has_entry}
use Rattle.cw_ledger.proofs.Entries.{taken_fits}
use Rattle.cw_ledger.proofs.Moving.{all_stays, gives_fit, passed}
use Rattle.cw_ledger.proofs.balances.Balances.pass.Goals as goal

pub set_amount-requires : goal.set_amount-requires
set_amount-requires c =
    subst
    (λ n. (n - c.args.transfer.now.amount ≡ 0)
    ⊎ (has_entry c.self.inside.map.entries c.args.transfer.now.from ≡ true))
    (sym c.amount_of-from.ensures)
    (taken_fits c.self.inside.map.entries c.args.transfer.now.from c.args.transfer.now.amount)

pub set_amount-requires-2 : goal.set_amount-requires-2
set_amount-requires-2 c =
    inr
    (c.set_amount.ensures.stays c.args.transfer.now.to
    (subst (λ (es : List (ℕ × ℕ)). has_entry es c.args.transfer.now.to ≡ true)
    (sym c.self.view_is) c.requires))

pub overflow_add-to : goal.overflow_add-to
overflow_add-to c =
    let old = c.self.inside.map.entries in
    let mid = c.set_amount.new.map.entries in
    let t = c.args.transfer.now in
    let there : t.amount ≤ amount_in old t.from = omega (arith, c.amount_of-from.ensures) in
    let taken =
    subst (λ n. IsSet t.from (n - t.amount) old mid) c.amount_of-from.ensures
    c.set_amount.ensures in
    omega (
      arith,
      gives_fit old mid t.from t.amount c.self.invariant there taken t.to,
      c.amount_of-to.ensures,
    )

pub invariant_of-self : goal.invariant_of-self
invariant_of-self c =
    let old = c.self.inside.map.entries in
    let mid = c.set_amount.new.map.entries in
    let new = c.set_amount-2.new.map.entries in
    let t = c.args.transfer.now in
    let there : t.amount ≤ amount_in old t.from = omega (arith, c.amount_of-from.ensures) in
    let taken =
    subst (λ n. IsSet t.from (n - t.amount) old mid) c.amount_of-from.ensures
    c.set_amount.ensures in
    let given =
    subst (λ n. IsSet t.to (n + t.amount) mid new) c.amount_of-to.ensures
    c.set_amount-2.ensures in
    all_stays old mid t.from t.amount c.self.invariant there taken t.to new given

pub returns-clause-moved : goal.returns-clause-moved
returns-clause-moved c account =
    let old = c.self.inside.map.entries in
    let mid = c.set_amount.new.map.entries in
    let new = c.set_amount-2.new.map.entries in
    let t = c.args.transfer.now in
    let there : t.amount ≤ amount_in old t.from = omega (arith, c.amount_of-from.ensures) in
    let taken =
    subst (λ n. IsSet t.from (n - t.amount) old mid) c.amount_of-from.ensures
    c.set_amount.ensures in
    let given =
    subst (λ n. IsSet t.to (n + t.amount) mid new) c.amount_of-to.ensures
    c.set_amount-2.ensures in
    rw (← c.self.view_is)
    (passed (amount_in old) (amount_in mid) (amount_in new) t there c.if-transfer.false
    taken.amounts given.amounts account)
