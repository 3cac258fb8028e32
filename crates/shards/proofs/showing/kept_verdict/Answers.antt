use Rattle.std.proofs.Common.{◌≡◌, ◌∙◌, ◌-◌, Some, None, ap, eqb-true, length, map, refl, subst, sym}
use Rattle.std.specs.Option.{option_and_then}
use Rattle.cw_rules.specs.Held.{if_committed}
use Rattle.cw_rules.specs.Rules.{block_of}
use Rattle.shards.specs.Enough.{AreEnough}
use Rattle.shards.specs.Kept.{chunk_rules, chunks_of}
use Rattle.shards.proofs.Answered.{enough_kept, verdict_shown}
use Rattle.shards.proofs.showing.kept_verdict.Goals as goal

pub shown-requires-after_bounds : goal.shown-requires-after_bounds
shown-requires-after_bounds g c κs _ =
    let hash = g.H.Hasher.digest_of in
    let n : length (chunks_of c.args.commitment.now c.args.kept.now)
    ≡ c.args.commitment.now.config.minimum - 1 =
    eqb-true _ _ (sym c.lack_one.ensures ∙ c.if-not-lack_one.false) in
    subst (AreEnough hash c.args.commitment.now)
    (sym (ap (map (λ x. x.now)) c.deref.ensures.value ∙ c.in_ok-chunks.ensures))
    (enough_kept hash c.args.committees.now c.args.kept.now c.args.commitment.now c.args.chunk.now
    c.requires.kept c.requires.new c.requires.taken c.requires.some c.requires.few n)

pub returns-in-Some : goal.returns-in-Some
returns-in-Some g c =
    let r = chunk_rules g.H.Hasher.digest_of c.args.committees.now in
    let n : length (chunks_of c.args.commitment.now c.args.kept.now)
    ≡ c.args.commitment.now.config.minimum - 1 =
    eqb-true _ _ (sym c.lack_one.ensures ∙ c.if-not-lack_one.false) in
    verdict_shown r refl c.args.kept.now c.args.commitment.now c.args.chunk.now
    (Some c.in-Some.block) c.requires.some n
    (sym c.in-Some.is
    ∙ (c.in_ok-block.ensures
    ∙ ap
    (λ xs. option_and_then (if_committed r c.args.commitment.now)
    (block_of r c.args.commitment.now.config xs))
    (ap (map (λ x. x.now)) c.deref.ensures.value ∙ c.in_ok-chunks.ensures)))

pub returns : goal.returns
returns g c =
    let r = chunk_rules g.H.Hasher.digest_of c.args.committees.now in
    let n : length (chunks_of c.args.commitment.now c.args.kept.now)
    ≡ c.args.commitment.now.config.minimum - 1 =
    eqb-true _ _ (sym c.lack_one.ensures ∙ c.if-not-lack_one.false) in
    verdict_shown r refl c.args.kept.now c.args.commitment.now c.args.chunk.now None
    c.requires.some n
    (sym c.in-None.is
    ∙ (c.in_ok-block.ensures
    ∙ ap
    (λ xs. option_and_then (if_committed r c.args.commitment.now)
    (block_of r c.args.commitment.now.config xs))
    (ap (map (λ x. x.now)) c.deref.ensures.value ∙ c.in_ok-chunks.ensures)))
