use Rattle.cw_rules.proofs.Runs.{clear_anchored, clear_entries, clear_down}
use Rattle.cw_rules.proofs.laws.epoch_laws.Goals as goal

pub returns-clause-anchored : goal.returns-clause-anchored
returns-clause-anchored c = clear_anchored

pub returns-clause-one_entry : goal.returns-clause-one_entry
returns-clause-one_entry c = clear_entries

pub returns-clause-goes_down : goal.returns-clause-goes_down
returns-clause-goes_down c = clear_down
