use Rattle.marshal.specs.Stored.{join_frames}
use Rattle.cw_rules.specs.Held.{resume}
use Rattle.cw_rules.specs.Step.{member_notes}
use Rattle.node.proofs.Rising.{increasing, since_stays, since_up}
use Rattle.node.proofs.Sent.{sent_stays}
use Rattle.node.proofs.Votes.{along, anything, lives_once}
use Rattle.node.specs.Lives.{since_start}
use Rattle.node.proofs.laws.life_laws.Goals as goal

pub returns-clause-own_votes : goal.returns-clause-own_votes
returns-clause-own_votes c id frames lives rising once =
    lives_once
    (λ r i up s e formed. c.member_laws.ensures.step r (λ notes. anything) i up (along r i) s e
    formed)
    id frames lives rising once

pub returns-clause-handed : goal.returns-clause-handed
returns-clause-handed c r id frames turns = since_up r id frames turns

pub returns-clause-stays : goal.returns-clause-stays
returns-clause-stays c r id frames turns more = since_stays r id frames turns more

pub returns-clause-once : goal.returns-clause-once
returns-clause-once c r id frames turns =
    increasing (member_notes (since_start r id frames turns)) (resume (join_frames frames))
    (since_start r id frames turns).given (since_up r id frames turns)

pub returns-clause-sent_votes : goal.returns-clause-sent_votes
returns-clause-sent_votes c r id m turn v more lives sends = sent_stays r id m turn v more lives sends
