use Rattle.std.proofs.Common.{◌≡◌, map, take}
use Rattle.marshal.specs.Waiting.{ticket_out}
use Rattle.marshal.proofs.tickets.outs_of.Given as goal

abbrev pub invariant-loop-pair : goal.invariant-loop-pair
invariant-loop-pair l = l.out.items ≡ map ticket_out (take l.pair-index l.pairs)
