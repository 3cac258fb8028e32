use Rattle.shards.proofs.Stands.{foreign_exactly, known_exactly, stands_event, stands_first, stands_taken}
use Rattle.shards.proofs.laws.shards_stand.Goals as goal

pub returns-clause-start : goal.returns-clause-start
returns-clause-start c = stands_first

pub returns-clause-known : goal.returns-clause-known
returns-clause-known c = known_exactly

pub returns-clause-foreign : goal.returns-clause-foreign
returns-clause-foreign c = foreign_exactly

pub returns-clause-taken : goal.returns-clause-taken
returns-clause-taken c = stands_taken

pub returns-clause-events : goal.returns-clause-events
returns-clause-events c = stands_event
