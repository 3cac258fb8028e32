use Rattle.cw_progress.proofs.NewView.{new_view}
use Rattle.cw_progress.proofs.laws.new_view_law.Goals as goal

pub returns : goal.returns
returns c = new_view
