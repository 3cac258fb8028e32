use Rattle.cw_progress.proofs.Ends.{all_ended, nullify_in_view}
use Rattle.cw_progress.proofs.laws.ended_laws.Goals as goal

pub returns-clause-nullified : goal.returns-clause-nullified
returns-clause-nullified c = nullify_in_view

pub returns-clause-ended : goal.returns-clause-ended
returns-clause-ended c = all_ended
