use Rattle.std.proofs.Common.{◌≡◌, ◌++◌, ◌∷◌, [], drop}
use Rattle.cw_rules.specs.Sends.{once}
use Rattle.node.proofs.missing.once_but.Given as goal

abbrev pub invariant-loop-commitment : goal.invariant-loop-commitment
invariant-loop-commitment l =
    l.each.items ++ once l.seen.keys (drop l.commitment-index l.commitments)
    ≡ once (l.fn.but ∷ []) l.commitments
