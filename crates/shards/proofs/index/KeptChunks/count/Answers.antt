use Rattle.std.proofs.Common.{◌∙◌, Some, None, ap, length}
use Rattle.shards.specs.Kept.{chunks_of}
use Rattle.shards.proofs.IndexLemmas.{chunks_found}
use Rattle.shards.proofs.index.KeptChunks.count.Goals as goal

pub returns-in-Some : goal.returns-in-Some
returns-in-Some c =
    c.len.ensures
    ∙ ap length
    (chunks_found c.self.inside.chunks.entries c.self.inside.order.items c.args.commitment.now
    (Some c.in-Some.block.now) c.self.invariant c.in-Some.ensures.value
    ∙ ap (chunks_of c.args.commitment.now) c.self.view_is)

pub returns-in-None : goal.returns-in-None
returns-in-None c =
    ap length
    (chunks_found c.self.inside.chunks.entries c.self.inside.order.items c.args.commitment.now
    None c.self.invariant c.in-None.ensures.value
    ∙ ap (chunks_of c.args.commitment.now) c.self.view_is)
