use Rattle.cw_progress.proofs.Chains.{chain_goes, view_goes}
use Rattle.cw_progress.proofs.laws.catch_up_laws.Goals as goal

pub returns-clause-certified : goal.returns-clause-certified
returns-clause-certified c = chain_goes

pub returns-clause-view : goal.returns-clause-view
returns-clause-view c = view_goes
