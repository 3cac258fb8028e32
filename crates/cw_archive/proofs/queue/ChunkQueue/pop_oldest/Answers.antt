use Rattle.std.proofs.Common.{◌∙◌, List, None, ap, drop, slice_get, sym, subst}
use Rattle.std.specs.Option.{option_map}
use Rattle.cw_archive.specs.Keys.{IsInOrder, kept_at_keys}
use Rattle.shards.specs.declared.pieces.KeptChunk.{KeptChunk}
use Rattle.cw_archive.specs.declared.key.ChunkKey.{ChunkKey}
use Rattle.cw_archive.proofs.KeyLemmas.{at_key_found}
use Rattle.cw_archive.proofs.OrderLemmas.{kept_popped, oldest, order_popped, sets_of}
use Rattle.cw_archive.proofs.queue.ChunkQueue.pop_oldest.Goals as goal

pub invariant_of-self-2 : goal.invariant_of-self-2
invariant_of-self-2 c =
    let es = c.self.inside.chunks.entries in
    let new = c.remove.new.self.entries in
    order_popped es new c.pop_front.new.self.items c.in_ok-key.key
    (subst (λ (o : List ChunkKey). IsInOrder es o) c.in_ok-key.ensures.items c.self.invariant)
    (sets_of es new c.in_ok-key.key None c.remove.ensures.updates.0)

pub returns-clause-value : goal.returns-clause-value
returns-clause-value c =
    let es = c.self.inside.chunks.entries in
    let new = c.remove.new.self.entries in
    c.remove.ensures.value
    ∙ (at_key_found es c.in_ok-key.key
    ∙ (oldest es new c.pop_front.new.self.items c.in_ok-key.key
    (subst (λ (o : List ChunkKey). IsInOrder es o) c.in_ok-key.ensures.items c.self.invariant)
    ∙ ap (λ (kept : List KeptChunk). option_map (λ (k : KeptChunk). k.chunk) (slice_get kept 0))
    (ap (λ (o : List ChunkKey). kept_at_keys es o) (sym c.in_ok-key.ensures.items)
    ∙ c.self.view_is)))

pub returns-clause-rest : goal.returns-clause-rest
returns-clause-rest c =
    let es = c.self.inside.chunks.entries in
    let new = c.remove.new.self.entries in
    kept_popped es new c.pop_front.new.self.items c.in_ok-key.key
    (subst (λ (o : List ChunkKey). IsInOrder es o) c.in_ok-key.ensures.items c.self.invariant)
    (sets_of es new c.in_ok-key.key None c.remove.ensures.updates.0)
    ∙ ap (λ (kept : List KeptChunk). drop 1 kept)
    (ap (λ (o : List ChunkKey). kept_at_keys es o) (sym c.in_ok-key.ensures.items) ∙ c.self.view_is)
