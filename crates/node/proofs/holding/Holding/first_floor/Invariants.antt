use Rattle.std.proofs.Common.{◌≡◌, drop}
use Rattle.cw_rules.specs.Accepted.{first_some}
use Rattle.cw_rules.specs.Owed.{floor_owed}
use Rattle.node.specs.Holding.{own_state, rules_of}
use Rattle.node.proofs.holding.Holding.first_floor.Given as goal

abbrev pub invariant-loop-wish : goal.invariant-loop-wish
invariant-loop-wish g l =
    let f =
    floor_owed (rules_of g.H.Hasher.digest_of g.A.Application.accepts l.self)
    (own_state l.self) in
    first_some f (drop l.wish-index l.wishes) ≡ first_some f l.wishes
