use Rattle.std.proofs.Common.{refl, ◌∙◌}
use Rattle.cw_types.proofs.Committed.{chunks_are, commitment_is}
use Rattle.cw_types.proofs.committing.commit_with_chunks.Goals as goal

pub returns-clause-commitment : goal.returns-clause-commitment
returns-clause-commitment g c =
    c.named.ensures
    ∙ commitment_is g.H.Hasher.digest_of c.args.n c.args.block.now _ _ _ c.in_ok-root.root _
    c.in_ok-root.chunks.items c.in_ok-config.ensures.config
    (c.as_slice-text.ensures.value ∙ c.in_ok-config.ensures.bytes) refl refl c.in_ok-root.ensures

pub returns-clause-chunks : goal.returns-clause-chunks
returns-clause-chunks g c =
    chunks_are g.H.Hasher.digest_of c.args.n c.args.block.now _ _ c.in_ok-root.root
    c.in_ok-root.chunks.items c.in_ok-config.ensures.config
    (c.as_slice-text.ensures.value ∙ c.in_ok-config.ensures.bytes) c.in_ok-root.ensures
