use Rattle.std.proofs.Common.{◌≡◌, ◌++◌, map, take}
use Rattle.cw_types.specs.declared.message.Message.{Message}
use Rattle.cw_rules.specs.Sends.{to_all}
use Rattle.node.proofs.holding.Holding.put_asks.Given as goal

abbrev pub invariant-loop-commitment : goal.invariant-loop-commitment
invariant-loop-commitment g l =
    l.out.items
    ≡ l.initial.out.items
    ++ map (λ c. to_all (Message.Ask l.self.id c)) (take l.commitment-index l.commitments)
