use Rattle.std.proofs.Common.{◌∙◌, Some, None, ap, is_some, sym}
use Rattle.shards.specs.Index.{with_index}
use Rattle.shards.specs.Kept.{chunks_of}
use Rattle.shards.proofs.IndexLemmas.{chunks_found, known_found}
use Rattle.shards.proofs.index.KeptChunks.has.Goals as goal

pub returns-in-Some : goal.returns-in-Some
returns-in-Some c =
    let d = c.args.commitment.now in
    let x = c.args.chunk.now in
    c.has.ensures
    ∙ (ap (λ i. is_some (with_index i c.in-Some.block.now)) c.index.ensures
    ∙ (ap (λ xs. is_some (with_index x.index xs))
    (chunks_found c.self.inside.chunks.entries c.self.inside.order.items d
    (Some c.in-Some.block.now) c.self.invariant c.in-Some.ensures.value
    ∙ ap (chunks_of d) c.self.view_is)
    ∙ sym (known_found c.args.self.now d x)))

pub returns-in-None : goal.returns-in-None
returns-in-None c =
    let d = c.args.commitment.now in
    let x = c.args.chunk.now in
    ap (λ xs. is_some (with_index x.index xs))
    (chunks_found c.self.inside.chunks.entries c.self.inside.order.items d None c.self.invariant
    c.in-None.ensures.value
    ∙ ap (chunks_of d) c.self.view_is)
    ∙ sym (known_found c.args.self.now d x)
