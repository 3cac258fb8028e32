use Rattle.shards.proofs.Stays.{member_rows, member_shown, shown_first}
use Rattle.shards.proofs.laws.shown_by_kept.Goals as goal

pub returns-clause-rows : goal.returns-clause-rows
returns-clause-rows c = member_rows

pub returns-clause-shown : goal.returns-clause-shown
returns-clause-shown c = member_shown

pub returns-clause-first : goal.returns-clause-first
returns-clause-first c = shown_first
