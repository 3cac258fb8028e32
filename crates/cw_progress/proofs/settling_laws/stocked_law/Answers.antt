use Rattle.cw_progress.proofs.SettlingStocked.{stocked_stays}
use Rattle.cw_progress.proofs.settling_laws.stocked_law.Goals as goal

pub returns : goal.returns
returns c = stocked_stays
