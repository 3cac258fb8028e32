use Rattle.shards.proofs.Stays.{enough_stay, garbage_stays, held_stays, others_stay, unheld_stays}
use Rattle.shards.proofs.laws.shown_stays.Goals as goal

pub returns-clause-enough : goal.returns-clause-enough
returns-clause-enough c = enough_stay

pub returns-clause-held : goal.returns-clause-held
returns-clause-held c = held_stays

pub returns-clause-garbage : goal.returns-clause-garbage
returns-clause-garbage c = garbage_stays

pub returns-clause-unheld : goal.returns-clause-unheld
returns-clause-unheld c = unheld_stays

pub returns-clause-others : goal.returns-clause-others
returns-clause-others c = others_stay
