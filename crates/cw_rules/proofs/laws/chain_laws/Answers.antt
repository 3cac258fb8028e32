use Rattle.cw_rules.proofs.Chain.{one_notarized, not_both_stand, finalized_descent}
use Rattle.cw_rules.proofs.laws.chain_laws.Goals as goal

pub returns-clause-one_notarized : goal.returns-clause-one_notarized
returns-clause-one_notarized c = one_notarized

pub returns-clause-not_both : goal.returns-clause-not_both
returns-clause-not_both c = not_both_stand

pub returns-clause-descent : goal.returns-clause-descent
returns-clause-descent c = finalized_descent
