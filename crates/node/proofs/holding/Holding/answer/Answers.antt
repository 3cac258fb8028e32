use Rattle.node.proofs.Stepping.{stands_ticketed}
use Rattle.node.proofs.holding.Holding.answer.Goals as goal

pub returns-clause-stands : goal.returns-clause-stands
returns-clause-stands g c =
    stands_ticketed g.H.Hasher.digest_of g.A.Application.accepts c.hand_out.new.self
    c.tickets.new.self _ c.in_ok-handed.ensures.stands c.in_ok-tickets.ensures.ok
