use Rattle.std.proofs.Common.{◌<◌, ◌++◌, length, ap, ◌∙◌, arith}
use Rattle.cw_tree.proofs.Written.{item_more, stays, on_err}
use Rattle.cw_tree.proofs.codec.put_digests.Goals as goal

pub returns-in_err-put_bytes-clause-err : goal.returns-in_err-put_bytes-clause-err
returns-in_err-put_bytes-clause-err g c =
    on_err c.from_residual.result
    (stays _ _ _ (c.in_err-put_bytes.ensures.err ∙ c.loop-digest.invariant))

pub loop-digest-preserved : goal.loop-digest-preserved
loop-digest-preserved g c =
    let within : c.loop-digest.digest-index < length c.args.digests.now = omega arith in
    item_more g.D.Digest.content c.args.digests.now c.loop-digest.digest-index
    c.digest-item.result _ c.loop-digest.out.items c.put_bytes.new.out.items within
    c.digest-item.is c.loop-digest.invariant
    (c.in_ok-put_bytes.ensures.ok
    ∙ ap (λ bytes. c.loop-digest.out.items ++ bytes) c.as_bytes.ensures.value)
