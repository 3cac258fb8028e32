use Rattle.member_runs.proofs.RunOf.{hosts_chain, hosts_run}
use Rattle.member_runs.proofs.laws.host_laws.Goals as goal

pub returns-clause-run : goal.returns-clause-run
returns-clause-run c cluster events is may = hosts_run cluster events is may

pub returns-clause-chain : goal.returns-clause-chain
returns-clause-chain c cluster events is may = hosts_chain cluster events is may
