use Rattle.cw_base.proofs.Ends.{end_of_end}
use Rattle.cw_tree.proofs.ReadLoop.{refused_here, refused_more}
use Rattle.cw_tree.proofs.codec.skip_digests.Goals as goal

pub returns-in-Err-clause-value : goal.returns-in-Err-clause-value
returns-in-Err-clause-value g c =
    let here =
    refused_here g.D.Digest.SIZE c.args.count c.loop-i.i c.loop-i.reader
    c.read_digest.new.reader c.in-Err.error c.loop-i-test.true c.in-Err.ensures.value in
    c.loop-i.invariant.0 c.in-Err.error c.read_digest.new.reader here

pub loop-i-preserved : goal.loop-i-preserved
loop-i-preserved g c = (
  λ e left more.
      let d = g.D.Digest.content c.in-Ok.field-0 in
      let here =
      refused_more g.D.Digest.SIZE c.args.count c.loop-i.i c.loop-i.reader d
      c.read_digest.new.reader left e c.loop-i-test.true c.in-Ok.ensures.value more in
      c.loop-i.invariant.0 e left here,
  end_of_end c.loop-i.invariant.1 c.read_digest.ensures.place,
)
