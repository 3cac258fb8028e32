use Rattle.std.proofs.Common.{refl, ◌∙◌}
use Rattle.cw_types.proofs.Committed.{commitment_is}
use Rattle.cw_types.proofs.committing.commit.Goals as goal

pub returns : goal.returns
returns g c =
    c.named.ensures
    ∙ commitment_is g.H.Hasher.digest_of c.args.n c.args.block.now _ _ _ c.in_ok-root.root _
    c.in_ok-root.ensures.0 c.in_ok-config.ensures.config
    (c.as_slice-text.ensures.value ∙ c.in_ok-config.ensures.bytes) refl refl c.in_ok-root.ensures.1
