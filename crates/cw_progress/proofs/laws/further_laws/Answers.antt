use Rattle.cw_progress.proofs.Further.{reaches_on}
use Rattle.cw_progress.proofs.Paths.{clear_on}
use Rattle.cw_progress.proofs.laws.further_laws.Goals as goal

pub returns-clause-reached : goal.returns-clause-reached
returns-clause-reached c = reaches_on

pub returns-clause-clear : goal.returns-clause-clear
returns-clause-clear c = clear_on
