use Rattle.std.proofs.Common.{◌≡◌, ◌∙◌, [], ◌∷◌, ap, refl, arith}
use Rattle.std.specs.BTreeMap.{insert_entry}
use Rattle.std.specs.Ordering.{nat_cmp}
use Rattle.cw_ledger.proofs.Entries.{is_account}
use Rattle.cw_ledger.proofs.balances.Balances.new.Goals as goal

pub invariant_of-result : goal.invariant_of-result
invariant_of-result c =
    let one : c.insert.new.self.entries ≡ (0, 1_000_000_000) ∷ [] =
    c.in_ok-insert.ensures.entries
    ∙ ap (λ es. insert_entry nat_cmp es 0 1_000_000_000) c.new-map.ensures.empty in
    record {
      sorted = c.insert.ensures.ordered;
      accounts = rw one (is_account 0 (omega arith), tt);
      supply = rw one refl;
    }
