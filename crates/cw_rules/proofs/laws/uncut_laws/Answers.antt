use Rattle.cw_rules.proofs.Uncuts.{chunk_unpassed, chunk_untaken, genesis_unshown, shown_came, vote_seen}
use Rattle.cw_rules.proofs.laws.uncut_laws.Goals as goal

pub returns-clause-untaken : goal.returns-clause-untaken
returns-clause-untaken c = chunk_untaken

pub returns-clause-unpassed : goal.returns-clause-unpassed
returns-clause-unpassed c = chunk_unpassed

pub returns-clause-shown : goal.returns-clause-shown
returns-clause-shown c = shown_came

pub returns-clause-genesis : goal.returns-clause-genesis
returns-clause-genesis c = genesis_unshown

pub returns-clause-seen : goal.returns-clause-seen
returns-clause-seen c = vote_seen
