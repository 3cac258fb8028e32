use Rattle.std.proofs.Common.{◌∙◌, Some, None, ap, sym}
use Rattle.cw_types.proofs.Ordered.{found_same}
use Rattle.shards.specs.Index.{with_index}
use Rattle.shards.specs.Kept.{chunks_of}
use Rattle.shards.proofs.IndexLemmas.{chunks_found}
use Rattle.shards.proofs.index.KeptChunks.by_index.Goals as goal

pub returns-in-Some-clause-some : goal.returns-in-Some-clause-some
returns-in-Some-clause-some c = λ i.
    c.by_index.ensures.each i
    ∙ ap (with_index i)
    (chunks_found c.self.inside.chunks.entries c.self.inside.order.items c.args.commitment.now
    (Some c.in-Some.block.now) c.self.invariant c.in-Some.ensures.value
    ∙ ap (chunks_of c.args.commitment.now) c.self.view_is)

pub returns-in-Some-clause-more : goal.returns-in-Some-clause-more
returns-in-Some-clause-more c =
    c.by_index.ensures.some
    (c.self.invariant.some c.args.commitment.now c.in-Some.block.now
    (sym (found_same c.self.inside.chunks.entries c.args.commitment.now)
    ∙ sym c.in-Some.ensures.value))

pub returns-in-None-clause-none : goal.returns-in-None-clause-none
returns-in-None-clause-none c =
    sym
    (chunks_found c.self.inside.chunks.entries c.self.inside.order.items c.args.commitment.now
    None c.self.invariant c.in-None.ensures.value
    ∙ ap (chunks_of c.args.commitment.now) c.self.view_is)
