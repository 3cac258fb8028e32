use Rattle.cw_progress.proofs.HandingAll.{all_above, all_up}
use Rattle.cw_progress.proofs.HandingOne.{hands_up}
use Rattle.cw_progress.proofs.handing_laws.hand_out_law.Goals as goal

pub returns-clause-one : goal.returns-clause-one
returns-clause-one c r script w cluster reach pos i m at top can =
    hands_up r pos i top script w cluster reach m at can

pub returns-clause-all : goal.returns-clause-all
returns-clause-all c = all_up

pub returns-clause-above : goal.returns-clause-above
returns-clause-above c = all_above
