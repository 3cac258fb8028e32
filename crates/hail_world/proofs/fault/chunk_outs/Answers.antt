use Rattle.std.proofs.Common.{◌≡◌, ◌++◌, List, sym, ap, ◌∙◌}
use Rattle.cw_types.specs.declared.event.Out.{Out}
use Rattle.cw_rules.specs.Sends.{chunk_out}
use Rattle.hail_world.specs.Offers.{some_of}
use Rattle.hail_world.proofs.Chunking.{some_more}
use Rattle.hail_world.proofs.fault.chunk_outs.Goals as goal

pub loop-chunk-preserved : goal.loop-chunk-preserved
loop-chunk-preserved c =
    let f = chunk_out c.args.member c.args.list.now c.args.commitment.now in
    rw (c.in_ok-push_some.ensures, c.chunk_out.ensures, c.loop-chunk.invariant)
    (sym (some_more f c.loop-chunk.yielded c.in-Some.chunk))
