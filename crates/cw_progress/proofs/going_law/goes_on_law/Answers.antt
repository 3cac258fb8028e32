use Rattle.cw_progress.proofs.Able.{always_able}
use Rattle.cw_progress.proofs.GoesOn.{able_goes_on, goes_on_times}
use Rattle.cw_progress.proofs.Paths.{clear_reaches}
use Rattle.cw_progress.proofs.going_law.goes_on_law.Goals as goal

pub returns-clause-able : goal.returns-clause-able
returns-clause-able c = able_goes_on

pub returns-clause-always : goal.returns-clause-always
returns-clause-always c r script w none cluster clear coder pos payload welcome room keeps =
    able_goes_on r script w none cluster clear coder pos payload welcome room
    (always_able r script w cluster keeps (clear_reaches r script w clear))

pub returns-clause-many : goal.returns-clause-many
returns-clause-many c r script w none cluster clear coder pos payload welcome count =
    goes_on_times r none coder pos payload welcome count script w cluster clear
