use Rattle.cw_progress.proofs.Finals.{can_finalize}
use Rattle.cw_progress.proofs.Quorum.{votes_over}
use Rattle.cw_progress.proofs.Timeouts.{view_ends}
use Rattle.cw_progress.proofs.laws.quorum_laws.Goals as goal

pub returns-clause-votes : goal.returns-clause-votes
returns-clause-votes c = votes_over

pub returns-clause-ends : goal.returns-clause-ends
returns-clause-ends c = view_ends

pub returns-clause-finalizes : goal.returns-clause-finalizes
returns-clause-finalizes c = can_finalize
