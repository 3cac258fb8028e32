use Rattle.std.proofs.Common.{length, ap, ◌∙◌, arith, get_or}
use Rattle.cw_coding.proofs.CheckLaws.{stands_at, stood_long, all_more, all_checked}
use Rattle.cw_coding.proofs.checking.check_all.Goals as goal

pub bounds-stood-i : goal.bounds-stood-i
bounds-stood-i g c =
    let long =
    stood_long g.H.Hasher.digest_of g.H.Digest.Digest.content c.args.config.now
    c.args.commitment.now c.args.indices.now c.args.shards.now _ c.in_ok-stood.ensures in
    omega (arith, long, ap length c.as_slice-stood.ensures.value)

pub answer-requires-after_bounds : goal.answer-requires-after_bounds
answer-requires-after_bounds g c = λ κs h.
    stands_at g.H.Hasher.digest_of g.H.Digest.Digest.content c.args.config.now c.args.commitment.now
    c.args.indices.now c.args.shards.now _ c.loop-i.i c.index-shards-i.result
    c.index-stood-i.result
    c.in_ok-stood.ensures c.loop-i-test.true c.index-shards-i.is
    (c.index-stood-i.is
    ∙ ap (λ xs. get_or xs c.loop-i.i c.index-stood-i.result) c.as_slice-stood.ensures.value)

pub loop-i-preserved : goal.loop-i-preserved
loop-i-preserved g c =
    all_more g.H.Hasher.digest_of g.H.Digest.Digest.content c.args.config.now c.args.commitment.now
    c.args.indices.now c.args.shards.now _ _ c.loop-i.i c.index-shards-i.result
    c.in_ok-answer.field-0
    (omega (arith, c.requires, c.loop-i-test.true)) c.loop-i-test.true c.index-shards-i.is
    c.in_ok-push.ensures.items c.loop-i.invariant c.in_ok-answer.ensures.checks
    c.in_ok-answer.ensures.memory

pub returns-clause-each : goal.returns-clause-each
returns-clause-each g c =
    all_checked g.H.Hasher.digest_of g.H.Digest.Digest.content c.args.config.now
    c.args.commitment.now c.args.indices.now c.args.shards.now _ c.loop-i.i
    (omega (arith, c.requires)) (omega arith) c.loop-i.invariant

pub offset_bounds-stood-i : goal.offset_bounds-stood-i
offset_bounds-stood-i g c =
    let long =
    stood_long g.H.Hasher.digest_of g.H.Digest.Digest.content c.args.config.now
    c.args.commitment.now c.args.indices.now c.args.shards.now _ c.in_ok-stood.ensures in
    omega (arith, long, ap length c.as_slice-stood.ensures.value)
