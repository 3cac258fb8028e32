use Rattle.cw_progress.proofs.Over.{block_over, cert_over}
use Rattle.cw_progress.proofs.laws.over_laws.Goals as goal

pub returns-clause-certificate : goal.returns-clause-certificate
returns-clause-certificate c = cert_over

pub returns-clause-block : goal.returns-clause-block
returns-clause-block c = block_over
