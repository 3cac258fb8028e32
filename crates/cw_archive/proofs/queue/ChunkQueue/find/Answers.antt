use Rattle.std.proofs.Common.{◌∙◌, ap, sym}
use Rattle.cw_archive.specs.Keys.{at_key}
use Rattle.cw_archive.specs.Archived.{kept_chunk_at}
use Rattle.cw_archive.proofs.KeyLemmas.{at_key_found}
use Rattle.cw_archive.proofs.OrderLemmas.{chunk_at_found}
use Rattle.cw_archive.proofs.queue.ChunkQueue.find.Goals as goal

pub returns : goal.returns
returns c =
    c.get.ensures.value
    ∙ (at_key_found c.self.inside.chunks.entries c.new.result
    ∙ (ap (at_key c.self.inside.chunks.entries) c.new.ensures
    ∙ (sym
    (chunk_at_found c.self.inside.chunks.entries c.args.commitment.now c.args.index
    c.self.inside.order.items c.self.invariant)
    ∙ ap (λ kept. kept_chunk_at c.args.commitment.now kept c.args.index) c.self.view_is)))
