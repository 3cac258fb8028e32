use Rattle.cw_rules.proofs.Deliveries.{all_delivered, at_held, falls}
use Rattle.cw_rules.proofs.Heights.{at_is_at}
use Rattle.cw_rules.proofs.Settles.{settled_all, step_ends}
use Rattle.cw_rules.proofs.laws.bound_laws.Goals as goal

pub returns-clause-settled : goal.returns-clause-settled
returns-clause-settled c = step_ends

pub returns-clause-delivered : goal.returns-clause-delivered
returns-clause-delivered c = all_delivered

pub returns-clause-held : goal.returns-clause-held
returns-clause-held c = at_held

pub returns-clause-settles : goal.returns-clause-settles
returns-clause-settles c = settled_all

pub returns-clause-falls : goal.returns-clause-falls
returns-clause-falls c = falls

pub returns-clause-of_height : goal.returns-clause-of_height
returns-clause-of_height c = at_is_at
