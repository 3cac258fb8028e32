use Rattle.std.proofs.Common.{◌∙◌, ◌∷◌, [], Bor, List, None, Some, ap, append-nil, map, sym}
use Rattle.std.proofs.lemmas.List.{map-append}
use Rattle.cw_rules.specs.Rules.{Chunk}
use Rattle.shards.proofs.BlockLemmas.{next_chunk, copied_none}
use Rattle.shards.proofs.block.BlockChunks.in_order.Goals as goal
use Rattle.shards.proofs.block.BlockChunks.in_order.Goals.{in-Some+in_ok-push, in_default}

pub loop-index-preserved : goal.loop-index-preserved
loop-index-preserved c =
    let now : List (Bor Chunk) → List Chunk = map (λ (x : Bor Chunk). x.now) in
    elim c.match-get.branch [
      | in-Some+in_ok-push w ↦
          next_chunk c.self.inside.chunks.entries c.self.inside.came.items
          c.deref-index-items.result.now c.loop-index.index-index (now c.loop-index.chunks.items)
          (now c.match-get.chunks.items) (Some w.in-Some.chunk.now)
          c.deref-index-items.ensures.value
          c.loop-index-test.true w.in-Some.ensures.value c.loop-index.invariant
          (ap now (ap (λ v. v.items) w.chunks-is ∙ w.in_ok-push.ensures.items)
          ∙ map-append (λ (x : Bor Chunk). x.now) c.loop-index.chunks.items (w.in-Some.chunk ∷ []))
      | in_default w ↦
          next_chunk c.self.inside.chunks.entries c.self.inside.came.items
          c.deref-index-items.result.now c.loop-index.index-index (now c.loop-index.chunks.items)
          (now c.match-get.chunks.items) None c.deref-index-items.ensures.value
          c.loop-index-test.true
          (sym (copied_none c.get.result w.in_default.not-Some) ∙ c.get.ensures.value)
          c.loop-index.invariant
          (ap now (ap (λ v. v.items) w.chunks-is)
          ∙ sym (append-nil (now c.loop-index.chunks.items)))
    ]
