use Rattle.cw_rules.proofs.Changes.{flags_kept, only_grows}
use Rattle.cw_rules.proofs.laws.line_laws.Goals as goal

pub returns-clause-grows : goal.returns-clause-grows
returns-clause-grows c = only_grows

pub returns-clause-flags : goal.returns-clause-flags
returns-clause-flags c = flags_kept
