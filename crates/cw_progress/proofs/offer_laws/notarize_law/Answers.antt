use Rattle.cw_progress.proofs.OfferVotes.{all_notarize}
use Rattle.cw_progress.proofs.offer_laws.notarize_law.Goals as goal

pub returns : goal.returns
returns c = all_notarize
