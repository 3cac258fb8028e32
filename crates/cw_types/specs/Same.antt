-- When two values are the same, as a test: field by field.
use Rattle.std.specs.Prelude.{◌==◌, ◌&&◌, Bool, false, bytes_eq}
use Rattle.cw_base.specs.declared.hash.Digest32.{Digest32}
use Rattle.cw_base.specs.Config.{same_counts}
use Rattle.cw_types.specs.declared.commitment.Commitment.{Commitment}
use Rattle.cw_types.specs.declared.block.Context.{Context}
use Rattle.cw_types.specs.declared.vote.Proposal.{Proposal}
use Rattle.cw_types.specs.declared.vote.Vote.{Vote}
use Rattle.cw_types.specs.declared.vote.Cert.{Cert}
use Rattle.cw_types.specs.declared.vote.Vote.TheVariants.{Notarize, Nullify, Finalize}
use Rattle.cw_types.specs.Block.{Block}

-- digests: their bytes
abbrev pub same_digest : Digest32 → Digest32 → Bool
same_digest a b = bytes_eq a.0 b.0

-- commitments: the three digests and the config
unfoldable pub same_commitment : Commitment → Commitment → Bool
same_commitment a b =
    same_digest a.block b.block
    && (same_digest a.root b.root
    && (same_digest a.context b.context && same_counts a.config b.config))

-- contexts: the four numbers and the parent's commitment
unfoldable pub same_context : Context → Context → Bool
same_context a b =
    (a.epoch == b.epoch)
    && ((a.view == b.view)
    && ((a.leader == b.leader)
    && ((a.parent_view == b.parent_view) && same_commitment a.parent b.parent)))

-- proposals: the three numbers and the payload's commitment
unfoldable pub same_proposal : Proposal → Proposal → Bool
same_proposal a b =
    (a.epoch == b.epoch)
    && ((a.view == b.view)
    && ((a.parent == b.parent) && same_commitment a.payload b.payload))

-- votes of one kind: what they are on
unfoldable pub same_vote : Vote → Vote → Bool
same_vote (Notarize p) (Notarize q) = same_proposal p q
same_vote (Nullify d v) (Nullify e w) = (d == e) && (v == w)
same_vote (Finalize p) (Finalize q) = same_proposal p q
same_vote _ _ = false

-- certificates: the vote and the signers, in their order
unfoldable pub same_cert : Cert → Cert → Bool
same_cert a b = same_vote a.vote b.vote && bytes_eq a.signers b.signers

-- blocks: context, parent's digest, height and payload
unfoldable pub same_block : Block → Block → Bool
same_block a b =
    same_context a.context b.context
    && (same_digest a.parent b.parent
    && ((a.height == b.height) && bytes_eq a.payload b.payload))
