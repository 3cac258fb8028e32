use Rattle.cw_progress.proofs.OfferMade.{proposes}
use Rattle.cw_progress.proofs.offer_laws.propose_law.Goals as goal

pub returns : goal.returns
returns c = proposes
