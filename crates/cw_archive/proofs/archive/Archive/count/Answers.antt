use Rattle.std.proofs.Common.{◌<◌, IsTrue}
use Rattle.cw_rules.specs.Rules.{Chunk}
use Rattle.cw_coding.specs.Totals.{total_of}
use Rattle.cw_types.specs.declared.commitment.Commitment.{Commitment}
use Rattle.shards.specs.Kept.{chunks_of}
use Rattle.cw_archive.specs.Archived.{checks}
use Rattle.cw_archive.proofs.CheckLemmas.{check_within}
use Rattle.cw_archive.proofs.IndexLemmas.{all_mapped, all_of}
use Rattle.cw_archive.proofs.archive.Archive.count.Goals as goal

pub count-requires : goal.count-requires
count-requires g c =
    let hash = g.H.Hasher.digest_of in
    let d = c.args.commitment.now in
    all_mapped (λ (x : Chunk). IsTrue (checks hash d x))
    (λ (x : Chunk). x.index < total_of d.config) (chunks_of d c.self.inside.kept)
    (λ x h. check_within hash d x h)
    (all_of (λ (e : Commitment) (x : Chunk). IsTrue (checks hash e x)) d c.self.inside.kept
    c.self.invariant.check)
