use Rattle.cw_archive.proofs.OrderLemmas.{order_empty}
use Rattle.cw_archive.proofs.queue.ChunkQueue.new.Goals as goal

pub invariant_of-result : goal.invariant_of-result
invariant_of-result c = rw (c.new.ensures.items, c.new-2.ensures.empty) order_empty
