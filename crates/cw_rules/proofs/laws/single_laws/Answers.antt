use Rattle.std.proofs.Common.{refl, ap, option_and_then}
use Rattle.cw_rules.specs.Owed.{reached_epoch, top_epoch}
use Rattle.cw_rules.proofs.Singles.{single_members, single_size, single_leader}
use Rattle.cw_rules.proofs.laws.single_laws.Goals as goal

pub returns-clause-members : goal.returns-clause-members
returns-clause-members c = single_members

pub returns-clause-size : goal.returns-clause-size
returns-clause-size c = single_size

pub returns-clause-leader : goal.returns-clause-leader
returns-clause-leader c = single_leader

pub returns-clause-no_end : goal.returns-clause-no_end
returns-clause-no_end c n epoch height = (refl, refl)

pub returns-clause-no_epoch : goal.returns-clause-no_epoch
returns-clause-no_epoch c r s e =
    ap (option_and_then (λ span. reached_epoch r s.notes span (top_epoch r s.notes span))) e
