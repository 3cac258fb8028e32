use Rattle.cw_ledger.proofs.Entries.{is_account}
use Rattle.cw_ledger.proofs.Sets.{has_it, was_set}
use Rattle.cw_ledger.proofs.balances.put.Goals as goal

pub returns-clause-ok : goal.returns-clause-ok
returns-clause-ok c =
    was_set c.args.map.now.entries c.insert.new.self.entries c.args.account c.args.amount
    (λ q. c.in_ok-insert.ensures.updates.0 q) c.in_ok-insert.ensures.entries
    c.insert.ensures.was_ordered c.insert.ensures.ordered
    (is_account c.args.account c.ranges.account.fits)

pub returns-clause-there : goal.returns-clause-there
returns-clause-there c =
    has_it c.args.map.now.entries c.insert.new.self.entries c.args.account c.args.amount
    (λ q. c.in_ok-insert.ensures.updates.0 q)
