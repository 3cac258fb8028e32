use Rattle.std.proofs.Common.{◌≡◌, ◌∙◌, ◌++◌, ◌∷◌, [], List, Some, ap, sym, subst}
use Rattle.shards.specs.Kept.{is_kept_chunk, with_chunk}
use Rattle.cw_archive.specs.Keys.{IsInOrder, chunk_key, kept_at_keys}
use Rattle.cw_archive.specs.declared.key.ChunkKey.{ChunkKey}
use Rattle.cw_archive.proofs.OrderLemmas.{Sets, absent_from, kept_pushed, order_pushed, sets_of}
use Rattle.cw_archive.proofs.queue.ChunkQueue.push.Goals as goal

pub invariant_of-self-2 : goal.invariant_of-self-2
invariant_of-self-2 c =
    let es = c.self.inside.chunks.entries in
    let new = c.insert.new.self.entries in
    let order : List ChunkKey = c.self.inside.order.items in
    let is : c.new-key.result ≡ chunk_key c.args.commitment.now c.args.chunk.index =
    c.new-key.ensures ∙ ap (chunk_key c.args.commitment.now) (c.from.ensures ∙ c.index.ensures) in
    let none =
    absent_from es order c.args.commitment.now c.args.chunk c.self.invariant
    (ap (λ kept. is_kept_chunk kept c.args.commitment.now c.args.chunk) c.self.view_is
    ∙ c.requires) in
    let sets =
    sets_of es new c.new-key.result (Some c.args.chunk) c.in_ok-insert.ensures.updates.0 in
    let items : c.push_back_reserved.new.self.items
    ≡ order ++ chunk_key c.args.commitment.now c.args.chunk.index ∷ [] =
    c.push_back_reserved.ensures.items
    ∙ (ap (λ (xs : List ChunkKey). xs ++ c.new-key.result ∷ []) c.in_ok-reserve.ensures.items
    ∙ ap (λ (k : ChunkKey). order ++ k ∷ []) is) in
    subst (λ (o : List ChunkKey). IsInOrder new o) (sym items)
    (order_pushed es new order c.args.commitment.now c.args.chunk c.self.invariant none
    (subst (λ (k : ChunkKey). Sets es new k (Some c.args.chunk)) is sets))

pub returns-clause-ok : goal.returns-clause-ok
returns-clause-ok c =
    let es = c.self.inside.chunks.entries in
    let new = c.insert.new.self.entries in
    let order : List ChunkKey = c.self.inside.order.items in
    let is : c.new-key.result ≡ chunk_key c.args.commitment.now c.args.chunk.index =
    c.new-key.ensures ∙ ap (chunk_key c.args.commitment.now) (c.from.ensures ∙ c.index.ensures) in
    let none =
    absent_from es order c.args.commitment.now c.args.chunk c.self.invariant
    (ap (λ kept. is_kept_chunk kept c.args.commitment.now c.args.chunk) c.self.view_is
    ∙ c.requires) in
    let sets =
    sets_of es new c.new-key.result (Some c.args.chunk) c.in_ok-insert.ensures.updates.0 in
    let items : c.push_back_reserved.new.self.items
    ≡ order ++ chunk_key c.args.commitment.now c.args.chunk.index ∷ [] =
    c.push_back_reserved.ensures.items
    ∙ (ap (λ (xs : List ChunkKey). xs ++ c.new-key.result ∷ []) c.in_ok-reserve.ensures.items
    ∙ ap (λ (k : ChunkKey). order ++ k ∷ []) is) in
    ap (λ (o : List ChunkKey). kept_at_keys new o) items
    ∙ (kept_pushed es new order c.args.commitment.now c.args.chunk c.self.invariant none
    (subst (λ (k : ChunkKey). Sets es new k (Some c.args.chunk)) is sets)
    ∙ ap (λ kept. with_chunk kept c.args.commitment.now c.args.chunk) c.self.view_is)
