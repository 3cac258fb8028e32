use Rattle.std.proofs.Common.{◌≡◌, ◌++◌, filter_map}
use Rattle.cw_rules.specs.Sends.{chunk_out}
use Rattle.node.proofs.holding.Holding.put_chunks.Given as goal

abbrev pub invariant-loop-chunk : goal.invariant-loop-chunk
invariant-loop-chunk g l =
    l.out.items
    ≡ l.initial.out.items ++ filter_map (chunk_out l.self.id l.list l.commitment) l.yielded
