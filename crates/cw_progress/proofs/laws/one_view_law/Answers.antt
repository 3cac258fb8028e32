use Rattle.cw_progress.proofs.OneView.{one_view}
use Rattle.cw_progress.proofs.laws.one_view_law.Goals as goal

pub returns : goal.returns
returns c = one_view
