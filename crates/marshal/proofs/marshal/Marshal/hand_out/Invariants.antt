use Rattle.cw_rules.specs.Step.{left_to_hand}
use Rattle.marshal.specs.Stored.{marshal_rules, marshal_state}
use Rattle.marshal.proofs.Handing.{HandsOut}
use Rattle.marshal.proofs.marshal.Marshal.hand_out.Given as goal

abbrev pub invariant-loop-handed : goal.invariant-loop-handed
invariant-loop-handed g l = HandsOut g.H.Hasher.digest_of l.fn.self l.self l.out.items

abbrev pub decreases-loop-handed : goal.decreases-loop-handed
decreases-loop-handed g l = left_to_hand (marshal_rules g.H.Hasher.digest_of l.self)
    (marshal_state l.self)
