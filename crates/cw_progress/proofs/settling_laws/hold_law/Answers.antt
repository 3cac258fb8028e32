use Rattle.cw_progress.proofs.SettlingHeld.{hold}
use Rattle.cw_progress.proofs.settling_laws.hold_law.Goals as goal

pub returns : goal.returns
returns c = hold
