use Rattle.std.proofs.Common.{◌≡◌, ◌∙◌, ◌++◌, ◌∷◌, [], List, ap, subst, sym}
use Rattle.shards.specs.Index.{AreGathered, IsNewChunk, all_gathered}
use Rattle.shards.specs.Kept.{is_kept_chunk, with_chunk}
use Rattle.shards.specs.declared.index.ChunkKey.{ChunkKey}
use Rattle.shards.proofs.IndexLemmas.{gathered_more, gathered_stay, one_more, new_unknown}
use Rattle.shards.proofs.index.KeptChunks.push.Goals as goal

pub add-requires : goal.add-requires
add-requires c =
    new_unknown c.self.inside.chunks.entries c.self.inside.order.items c.args.commitment.now
    c.args.chunk c.self.invariant
    (ap (λ kept. is_kept_chunk kept c.args.commitment.now c.args.chunk) c.self.view_is ∙ c.requires)

pub invariant_of-self-in_err-add : goal.invariant_of-self-in_err-add
invariant_of-self-in_err-add c =
    let new = c.add.new.chunks.entries in
    subst (AreGathered new) (sym c.in_ok-reserve.ensures.items)
    (gathered_stay c.self.inside.chunks.entries new c.self.inside.order.items
    c.in_err-add.ensures.err c.self.invariant)

pub invariant_of-self-2 : goal.invariant_of-self-2
invariant_of-self-2 c =
    let es = c.self.inside.chunks.entries in
    let new = c.add.new.chunks.entries in
    let d = c.args.commitment.now in
    let x = c.args.chunk in
    let order : List ChunkKey = c.self.inside.order.items in
    let is_new : IsNewChunk es d x =
    new_unknown es order d x c.self.invariant
    (ap (λ kept. is_kept_chunk kept d x) c.self.view_is ∙ c.requires) in
    let items : c.push_reserved.new.self.items
    ≡ order ++ record { commitment = d; index = x.index } ∷ [] =
    c.push_reserved.ensures.items
    ∙ (ap
    (λ (qs : List ChunkKey). qs ++ record { commitment = d; index = c.index-index.result } ∷ [])
    c.in_ok-reserve.ensures.items
    ∙ ap (λ i. order ++ record { commitment = d; index = i } ∷ []) c.index-index.ensures) in
    subst (AreGathered new) (sym items)
    (gathered_more es new d x c.in_ok-add.ensures.ok order c.self.invariant is_new)

pub returns-clause-ok : goal.returns-clause-ok
returns-clause-ok c =
    let es = c.self.inside.chunks.entries in
    let new = c.add.new.chunks.entries in
    let d = c.args.commitment.now in
    let x = c.args.chunk in
    let order : List ChunkKey = c.self.inside.order.items in
    let is_new : IsNewChunk es d x =
    new_unknown es order d x c.self.invariant
    (ap (λ kept. is_kept_chunk kept d x) c.self.view_is ∙ c.requires) in
    let items : c.push_reserved.new.self.items
    ≡ order ++ record { commitment = d; index = x.index } ∷ [] =
    c.push_reserved.ensures.items
    ∙ (ap
    (λ (qs : List ChunkKey). qs ++ record { commitment = d; index = c.index-index.result } ∷ [])
    c.in_ok-reserve.ensures.items
    ∙ ap (λ i. order ++ record { commitment = d; index = i } ∷ []) c.index-index.ensures) in
    ap (all_gathered new) items
    ∙ (one_more es new d x c.in_ok-add.ensures.ok order c.self.invariant is_new
    ∙ ap (λ kept. with_chunk kept d x) c.self.view_is)
