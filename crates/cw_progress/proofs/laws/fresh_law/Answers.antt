use Rattle.cw_progress.proofs.Fresh.{all_fresh}
use Rattle.cw_progress.proofs.laws.fresh_law.Goals as goal

pub returns : goal.returns
returns c = all_fresh
