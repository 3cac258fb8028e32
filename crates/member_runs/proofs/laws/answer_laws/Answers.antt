use Rattle.member_runs.proofs.Sessions.{from_bytes, lines_go, no_turn, start_goes, turn_answer}
use Rattle.member_runs.proofs.laws.answer_laws.Goals as goal

pub returns-clause-turn : goal.returns-clause-turn
returns-clause-turn c hash travel s text t is = turn_answer hash travel s text t is

pub returns-clause-from_bytes : goal.returns-clause-from_bytes
returns-clause-from_bytes c text t is = from_bytes text t is

pub returns-clause-no_turn : goal.returns-clause-no_turn
returns-clause-no_turn c hash travel s text is = no_turn hash travel s text is

pub returns-clause-lines : goal.returns-clause-lines
returns-clause-lines c hash travel s texts = lines_go hash travel s texts

pub returns-clause-start : goal.returns-clause-start
returns-clause-start c hash travel session opening o frames opens found =
    start_goes hash travel session opening o frames opens found
