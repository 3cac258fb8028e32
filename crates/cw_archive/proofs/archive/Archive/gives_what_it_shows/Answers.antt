use Rattle.std.proofs.Common.{◌≡◌, ◌↔◌, IsTrue, Some, arith, subst}
use Rattle.cw_rules.specs.Coding.{AreBytes}
use Rattle.cw_rules.specs.Rules.{Chunk}
use Rattle.cw_types.specs.declared.commitment.Commitment.{Commitment}
use Rattle.cw_archive.specs.Archived.{Archived, checks, chunks_of_least_index, given_back}
use Rattle.cw_archive.specs.Showing.{Shows}
use Rattle.cw_archive.proofs.CheckLemmas.{few_chunks}
use Rattle.cw_archive.proofs.IndexLemmas.{all_of, least_all}
use Rattle.cw_archive.proofs.archive.Archive.gives_what_it_shows.Goals as goal

pub returns : goal.returns
returns g c b =
    let hash = g.H.Hasher.digest_of in
    let d = c.args.commitment.now in
    let kept = c.self.inside.kept in
    let law = c.archives_show.ensures in
    let back : Shows hash d (chunks_of_least_index d kept) b → given_back hash d kept ≡ Some b =
    λ h. law.only hash d (chunks_of_least_index d kept) b (omega arith)
    (few_chunks hash d (chunks_of_least_index d kept) (omega (arith, h.enough))
    (least_all (λ (x : Chunk). IsTrue (checks hash d x)) d kept
    (all_of (λ (e : Commitment) (x : Chunk). IsTrue (checks hash e x)) d kept
    c.self.invariant.check)))
    (law.apart d kept)
    (least_all (λ (x : Chunk). AreBytes x.shard) d kept
    (all_of (λ (e : Commitment) (x : Chunk). AreBytes x.shard) d kept c.self.invariant.bytes))
    h in
    subst
    (λ (a : Archived). (given_back hash d a.kept ≡ Some b)
    ↔ Shows hash d (chunks_of_least_index d a.kept) b)
    c.self.view_is (law.shown hash d (chunks_of_least_index d kept) b, back)
