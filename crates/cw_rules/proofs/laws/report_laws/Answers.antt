use Rattle.cw_rules.proofs.Reports.{report_chain}
use Rattle.cw_rules.proofs.laws.report_laws.Goals as goal

pub returns : goal.returns
returns c r script w cluster pos ends = report_chain r pos script w cluster ends
