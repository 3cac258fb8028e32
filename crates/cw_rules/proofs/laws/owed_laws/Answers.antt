use Rattle.cw_rules.proofs.Tops.{greatest_owed, none_owed}
use Rattle.cw_rules.proofs.laws.owed_laws.Goals as goal

pub returns-clause-greatest : goal.returns-clause-greatest
returns-clause-greatest c = greatest_owed

pub returns-clause-none : goal.returns-clause-none
returns-clause-none c = none_owed
