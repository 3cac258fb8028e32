use Rattle.cw_progress.proofs.Rising.{certified_held}
use Rattle.cw_progress.proofs.laws.held_laws.Goals as goal

pub returns : goal.returns
returns c = certified_held
