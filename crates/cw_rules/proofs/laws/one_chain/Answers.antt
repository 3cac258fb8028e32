use Rattle.cw_rules.proofs.Runs.{script_chain}
use Rattle.cw_rules.proofs.laws.one_chain.Goals as goal

pub returns : goal.returns
returns c = script_chain
