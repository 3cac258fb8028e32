use Rattle.node_disk.proofs.Group.{append_only, append_rests}
use Rattle.node_disk.proofs.laws.law_of_appends.Goals as goal

pub returns-clause-any_moment : goal.returns-clause-any_moment
returns-clause-any_moment c = append_only

pub returns-clause-settled : goal.returns-clause-settled
returns-clause-settled c = append_rests
