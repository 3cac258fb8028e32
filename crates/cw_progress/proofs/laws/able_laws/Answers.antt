use Rattle.cw_progress.proofs.Able.{always_able, single_able}
use Rattle.cw_progress.proofs.laws.able_laws.Goals as goal

pub returns-clause-always : goal.returns-clause-always
returns-clause-always c = always_able

pub returns-clause-single : goal.returns-clause-single
returns-clause-single c = single_able
