use Rattle.std.proofs.Common.{◌≡◌, ◌∙◌, ◌<◌, List, ap, arith, false, is_some, length, subst, sym, true}
use Rattle.std.specs.List.{AllByRecursion}
use Rattle.cw_rules.specs.Rules.{Chunk}
use Rattle.cw_coding.specs.Totals.{total_of}
use Rattle.shards.specs.Kept.{chunks_of}
use Rattle.shards.specs.declared.pieces.KeptChunk.{KeptChunk}
use Rattle.cw_archive.specs.Keys.{at_key, chunk_key}
use Rattle.cw_archive.proofs.IndexLemmas.{answers, count_more, counted}
use Rattle.cw_archive.proofs.KeyLemmas.{at_key_found}
use Rattle.cw_archive.proofs.queue.ChunkQueue.count.Goals as goal
use Rattle.cw_archive.proofs.queue.ChunkQueue.count.Goals.{else-contains_key, then-contains_key}

pub loop-index-preserved : goal.loop-index-preserved
loop-index-preserved c =
    let es = c.self.inside.chunks.entries in
    let d = c.args.commitment.now in
    let there : c.contains_key.result ≡ is_some (at_key es (chunk_key d c.loop-index.index)) =
    c.contains_key.ensures
    ∙ ap is_some (at_key_found es c.new.result ∙ ap (at_key es) c.new.ensures) in
    elim c.if-contains_key.branch [
      | then-contains_key w ↦ count_more (λ i. at_key es (chunk_key d i)) c.loop-index.index
          c.loop-index.count c.if-contains_key.count true c.loop-index.invariant.0
          c.loop-index.invariant.1 (sym w.if-contains_key.true ∙ there) w.count-is
      | else-contains_key w ↦ count_more (λ i. at_key es (chunk_key d i)) c.loop-index.index
          c.loop-index.count c.if-contains_key.count false c.loop-index.invariant.0
          c.loop-index.invariant.1 (sym w.if-contains_key.false ∙ there) w.count-is
    ]

pub returns : goal.returns
returns c =
    let es = c.self.inside.chunks.entries in
    let d = c.args.commitment.now in
    let whole : c.loop-index.index ≡ total_of d.config = omega arith in
    c.loop-index.invariant.0
    ∙ (ap (λ n. length (answers (λ i. at_key es (chunk_key d i)) 0 n)) whole
    ∙ (counted es d c.self.inside.order.items (total_of d.config) c.self.invariant
    (subst
    (λ (kept : List KeptChunk). AllByRecursion (λ (x : Chunk). x.index < total_of d.config)
    (chunks_of d kept))
    (sym c.self.view_is) c.requires)
    ∙ ap (λ (kept : List KeptChunk). length (chunks_of d kept)) c.self.view_is))
