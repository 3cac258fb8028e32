use Rattle.cw_base.proofs.Ends.{end_of_end}
use Rattle.cw_types.proofs.SignersRead.{refused_here, refused_more}
use Rattle.cw_types.proofs.vote.skip_signers.Goals as goal

pub returns-in-Err-clause-value : goal.returns-in-Err-clause-value
returns-in-Err-clause-value c =
    let here =
    refused_here c.args.count c.loop-i.i c.loop-i.reader c.be16.new.self c.in-Err.error
    c.loop-i-test.true c.in-Err.ensures.value in
    c.loop-i.invariant.0 c.in-Err.error c.be16.new.self here

pub loop-i-preserved : goal.loop-i-preserved
loop-i-preserved c = (
  λ e left more.
      let here =
      refused_more c.args.count c.loop-i.i c.loop-i.reader c.in-Ok.field-0 c.be16.new.self left
      e c.loop-i-test.true c.in-Ok.ensures.value more in
      c.loop-i.invariant.0 e left here,
  end_of_end c.loop-i.invariant.1 c.be16.ensures.place,
)
