use Rattle.std.proofs.Common.{◌∙◌, Some, None, ap, map}
use Rattle.shards.specs.Kept.{chunks_of}
use Rattle.shards.proofs.IndexLemmas.{chunks_found, if_ok_then}
use Rattle.shards.proofs.index.KeptChunks.chunks.Goals as goal

pub returns-in-Some : goal.returns-in-Some
returns-in-Some c =
    if_ok_then c.in_order.result c.in_order.ensures
    (λ _ e. e
    ∙ (chunks_found c.self.inside.chunks.entries c.self.inside.order.items c.args.commitment.now
    (Some c.in-Some.block.now) c.self.invariant c.in-Some.ensures.value
    ∙ ap (chunks_of c.args.commitment.now) c.self.view_is))

pub returns-in-None : goal.returns-in-None
returns-in-None c =
    ap (map (λ x. x.now)) c.new.ensures.items
    ∙ (chunks_found c.self.inside.chunks.entries c.self.inside.order.items c.args.commitment.now
    None c.self.invariant c.in-None.ensures.value
    ∙ ap (chunks_of c.args.commitment.now) c.self.view_is)
