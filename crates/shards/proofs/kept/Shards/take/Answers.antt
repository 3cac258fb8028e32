use Rattle.std.proofs.Common.{◌≡◌, ◌∙◌, false, subst, sym, true}
use Rattle.cw_rules.specs.Accepted.{is_chunk_of}
use Rattle.shards.specs.Kept.{AreTakenOnce, Gathered, chunk_rules, is_kept_chunk}
use Rattle.shards.specs.Verdicts.{kept_verdict, verdict}
use Rattle.shards.proofs.Answered.{verdict_taken}
use Rattle.shards.proofs.KeptLemmas.{keep_more}
use Rattle.shards.proofs.kept.Shards.take.Goals as goal

pub keep-requires : goal.keep-requires
keep-requires g c = sym c.has.ensures ∙ c.if-has.false

pub invariant_of-self-2 : goal.invariant_of-self-2
invariant_of-self-2 g c =
    let r = chunk_rules g.H.Hasher.digest_of c.self.inside.committees in
    subst (AreTakenOnce r) (sym c.in_ok-keep.ensures.ok)
    (keep_more r c.self.inside.kept c.args.commitment.now c.args.chunk c.self.invariant
    (sym c.has.ensures ∙ c.if-has.false)
    (sym c.is_chunk_of.ensures.value ∙ c.if-not-is_chunk_of.false))

pub returns-clause-verdict : goal.returns-clause-verdict
returns-clause-verdict g c =
    let hash = g.H.Hasher.digest_of in
    let r = chunk_rules hash c.self.inside.committees in
    let new : is_kept_chunk c.self.inside.kept c.args.commitment.now c.args.chunk ≡ false =
    sym c.has.ensures ∙ c.if-has.false in
    let taken : is_chunk_of r c.args.commitment.now c.args.chunk ≡ true =
    sym c.is_chunk_of.ensures.value ∙ c.if-not-is_chunk_of.false in
    let kept : c.in_ok-verdict.verdict
    ≡ kept_verdict r c.self.inside.kept c.args.commitment.now c.args.chunk =
    c.in_ok-verdict.ensures in
    c.in_ok-keep.ensures.same
    ∙ subst
    (λ (t : Gathered). c.in_ok-verdict.verdict
    ≡ verdict (chunk_rules hash t.epochs) t.kept c.args.commitment.now c.args.chunk)
    c.self.view_is
    (verdict_taken r c.self.inside.kept c.args.commitment.now c.args.chunk c.in_ok-verdict.verdict
    new taken kept)
