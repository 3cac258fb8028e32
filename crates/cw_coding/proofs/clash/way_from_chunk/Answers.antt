use Rattle.std.proofs.Common.{ℕ, List, ◌∙◌, ◌∷◌, ap, sym, Some}
use Rattle.std.specs.Prelude.{option_map}
use Rattle.cw_coding.specs.Clash.{way_of}
use Rattle.cw_coding.proofs.ClashLaws.{way_is, way_there}
use Rattle.cw_coding.proofs.clash.way_from_chunk.Goals as goal

pub unreachable-requires : goal.unreachable-requires
unreachable-requires g c =
    let hash = g.H.Hasher.digest_of in
    let content = g.H.Digest.Digest.content in
    let shard : List ℕ = c.in_ok-shard.shard.items in
    let is =
    way_is hash content c.args.chunk.now c.proof.result.now.leaf_count c.from-index.result
    c.proof.result.now.siblings c.hash-digest.result shard _
    c.proof.ensures.leaf_count (c.from-index.ensures ∙ c.index.ensures) c.proof.ensures.siblings
    (c.in_ok-shard.ensures.items ∙ c.shard.ensures)
    (c.hash-digest.ensures ∙ ap hash c.deref.ensures.value) c.in_ok-above.ensures in
    way_there (way_of hash content c.args.chunk.now)
    (is
    ∙ ap
    (λ found. option_map (λ (above : List (List ℕ)). shard ∷ above)
    (option_map (λ texts. texts.items) found))
    c.in_default.is)
    c.requires.leads

pub returns : goal.returns
returns g c =
    let hash = g.H.Hasher.digest_of in
    let content = g.H.Digest.Digest.content in
    let shard : List ℕ = c.in_ok-shard.shard.items in
    let is =
    way_is hash content c.args.chunk.now c.proof.result.now.leaf_count c.from-index.result
    c.proof.result.now.siblings c.hash-digest.result shard _
    c.proof.ensures.leaf_count (c.from-index.ensures ∙ c.index.ensures) c.proof.ensures.siblings
    (c.in_ok-shard.ensures.items ∙ c.shard.ensures)
    (c.hash-digest.ensures ∙ ap hash c.deref.ensures.value) c.in_ok-above.ensures in
    is
    ∙ ap
    (λ found. option_map (λ (above : List (List ℕ)). shard ∷ above)
    (option_map (λ texts. texts.items) found))
    c.in-Some.is
    ∙ ap Some
    (ap (λ (t : List ℕ). t ∷ c.in-Some.above.items) (sym c.from_vec.ensures)
    ∙ sym c.in_ok-insert.ensures.items)
