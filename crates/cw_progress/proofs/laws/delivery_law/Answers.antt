use Rattle.cw_progress.proofs.Deliveries.{all_kept}
use Rattle.cw_progress.proofs.laws.delivery_law.Goals as goal

pub returns : goal.returns
returns c = all_kept
