use Rattle.std.proofs.Common.{◌≡◌, ◌∙◌, ◌++◌, ◌∷◌, [], List, None, ap, subst, sym, ℕ}
use Rattle.shards.specs.Index.{AreChunksIndexed, chunks_at, with_index}
use Rattle.cw_rules.specs.Rules.{Chunk}
use Rattle.shards.proofs.BlockLemmas.{SetsIndex, chunks_pushed, indexed_pushed}
use Rattle.shards.proofs.block.BlockChunks.push.Goals as goal

pub invariant_of-self-2 : goal.invariant_of-self-2
invariant_of-self-2 c =
    let old = c.self.inside.chunks.entries in
    let came : List ℕ = c.self.inside.came.items in
    let x = c.args.chunk in
    let none : with_index x.index (chunks_at old came) ≡ None =
    ap (with_index x.index) c.self.view_is ∙ c.requires in
    let items : c.push_reserved.new.self.items ≡ came ++ x.index ∷ [] =
    c.push_reserved.ensures.items
    ∙ (ap (λ (is : List ℕ). is ++ c.index-index.result ∷ []) c.in_ok-reserve.ensures.items
    ∙ ap (λ i. came ++ i ∷ []) c.index-index.ensures) in
    subst (AreChunksIndexed c.insert.new.self.entries) (sym items)
    (indexed_pushed old c.insert.new.self.entries x
    (subst (λ i. SetsIndex i x old c.insert.new.self.entries) c.index-index.ensures
    c.in_ok-insert.ensures.updates.0) came c.self.invariant none)

pub returns-clause-ok : goal.returns-clause-ok
returns-clause-ok c =
    let old = c.self.inside.chunks.entries in
    let new = c.insert.new.self.entries in
    let came : List ℕ = c.self.inside.came.items in
    let x = c.args.chunk in
    let none : with_index x.index (chunks_at old came) ≡ None =
    ap (with_index x.index) c.self.view_is ∙ c.requires in
    let items : c.push_reserved.new.self.items ≡ came ++ x.index ∷ [] =
    c.push_reserved.ensures.items
    ∙ (ap (λ (is : List ℕ). is ++ c.index-index.result ∷ []) c.in_ok-reserve.ensures.items
    ∙ ap (λ i. came ++ i ∷ []) c.index-index.ensures) in
    ap (chunks_at new) items
    ∙ (chunks_pushed old new x
    (subst (λ i. SetsIndex i x old c.insert.new.self.entries) c.index-index.ensures
    c.in_ok-insert.ensures.updates.0) came c.self.invariant none
    ∙ ap (λ (xs : List Chunk). xs ++ x ∷ []) c.self.view_is)
