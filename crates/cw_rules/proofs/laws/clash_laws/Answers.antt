use Rattle.cw_rules.proofs.ClashFound.{script_clash}
use Rattle.cw_rules.proofs.Written.{texts_differ}
use Rattle.cw_rules.proofs.laws.clash_laws.Goals as goal

pub returns-clause-blocks : goal.returns-clause-blocks
returns-clause-blocks c = script_clash

pub returns-clause-texts : goal.returns-clause-texts
returns-clause-texts c r script earlier later tells cluster fits h =
    texts_differ r script tells cluster fits earlier later h
