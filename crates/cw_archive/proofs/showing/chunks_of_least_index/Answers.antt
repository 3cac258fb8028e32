use Rattle.std.proofs.Common.{◌≡◌, ◌∙◌, ◌++◌, ◌∷◌, [], Bor, List, None, Some, ap, append-nil, arith, length, length-append, map, sym}
use Rattle.std.proofs.lemmas.List.{length-map, map-append}
use Rattle.cw_rules.specs.Rules.{Chunk}
use Rattle.cw_coding.specs.Totals.{total_of}
use Rattle.cw_archive.specs.Archived.{kept_chunk_at}
use Rattle.cw_archive.proofs.IndexLemmas.{enough_answers, list_more}
use Rattle.cw_archive.proofs.PutLemmas.{copied_none}
use Rattle.cw_archive.proofs.showing.chunks_of_least_index.Goals as goal
use Rattle.cw_archive.proofs.showing.chunks_of_least_index.Goals.{in-Some+in_ok-push, in_default}

pub returns-then-len-minimum : goal.returns-then-len-minimum
returns-then-len-minimum c =
    let f = kept_chunk_at c.args.commitment.now c.args.kept.now in
    let same = ap length c.loop-index.invariant.0 in
    let long = length-map c.loop-index.chunks.items (λ x. x.now) in
    c.loop-index.invariant.0
    ∙ enough_answers f c.args.commitment.now.config.minimum c.loop-index.index
    (total_of c.args.commitment.now.config) (omega arith) (omega arith)

pub loop-index-preserved : goal.loop-index-preserved
loop-index-preserved c =
    let f = kept_chunk_at c.args.commitment.now c.args.kept.now in
    let now : List (Bor Chunk) → List Chunk = map (λ (x : Bor Chunk). x.now) in
    elim c.match-find.branch [
      | in-Some+in_ok-push w ↦
          (let items : c.match-find.chunks.items
          ≡ c.loop-index.chunks.items ++ w.in-Some.chunk ∷ [] =
          ap (λ v. v.items) w.chunks-is ∙ w.in_ok-push.ensures.items in
          let more =
          ap length items ∙ length-append c.loop-index.chunks.items (w.in-Some.chunk ∷ []) in (
            ap now items
                ∙ (map-append (λ (x : Bor Chunk). x.now) c.loop-index.chunks.items
                (w.in-Some.chunk ∷ [])
                ∙ list_more f c.loop-index.index (now c.loop-index.chunks.items)
                (Some w.in-Some.chunk.now) c.loop-index.invariant.0 w.in-Some.ensures),
            omega arith,
          ))
      | in_default w ↦
          (let items : c.match-find.chunks.items ≡ c.loop-index.chunks.items =
          ap (λ v. v.items) w.chunks-is in
          let none : f c.loop-index.index ≡ None =
          sym c.find.ensures ∙ copied_none c.find.result w.in_default.not-Some in
          let more = ap length items in (
            ap now items
                ∙ (sym (append-nil (now c.loop-index.chunks.items))
                ∙ list_more f c.loop-index.index (now c.loop-index.chunks.items) None
                c.loop-index.invariant.0 (sym none)),
            omega arith,
          ))
    ]
