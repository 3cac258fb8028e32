use Rattle.node_disk.proofs.Group.{group_only, group_rests}
use Rattle.node_disk.proofs.laws.law_of_groups.Goals as goal

pub returns-clause-any_moment : goal.returns-clause-any_moment
returns-clause-any_moment c = group_only

pub returns-clause-settled : goal.returns-clause-settled
returns-clause-settled c = group_rests
