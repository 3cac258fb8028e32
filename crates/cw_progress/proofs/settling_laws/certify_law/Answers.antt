use Rattle.cw_progress.proofs.SettlingCertified.{certify}
use Rattle.cw_progress.proofs.settling_laws.certify_law.Goals as goal

pub returns : goal.returns
returns c = certify
