use Rattle.cw_rules.proofs.Codewords.{cut_under, shown_exactly, taken_apart}
use Rattle.cw_rules.proofs.laws.coding_laws.Goals as goal

pub returns-clause-apart : goal.returns-clause-apart
returns-clause-apart c = taken_apart

pub returns-clause-shown : goal.returns-clause-shown
returns-clause-shown c = shown_exactly

pub returns-clause-cut : goal.returns-clause-cut
returns-clause-cut c = cut_under
