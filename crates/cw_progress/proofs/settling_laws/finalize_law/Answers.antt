use Rattle.cw_progress.proofs.SettlingFinal.{finalize}
use Rattle.cw_progress.proofs.settling_laws.finalize_law.Goals as goal

pub returns : goal.returns
returns c = finalize
