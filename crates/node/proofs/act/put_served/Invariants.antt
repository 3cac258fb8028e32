use Rattle.std.proofs.Common.{◌≡◌, ◌++◌, take}
use Rattle.node.proofs.act.put_served.Given as goal

abbrev pub invariant-loop-ticket : goal.invariant-loop-ticket
invariant-loop-ticket l = l.out.items ≡ l.initial.out.items ++ take l.ticket-index l.served
