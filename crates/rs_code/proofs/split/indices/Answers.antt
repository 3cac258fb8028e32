use Rattle.std.proofs.Common.{◌+◌, refl}
use Rattle.rs_code.proofs.RowFronts.{number_pushed, one_longer}
use Rattle.rs_code.proofs.split.indices.Goals as goal

pub loop-s-preserved : goal.loop-s-preserved
loop-s-preserved c = record {
  count =
      one_longer c.loop-s.values.items _ c.push.new.self.items c.loop-s.s
      c.loop-s.invariant.count c.in_ok-push.ensures.items;
  each =
      number_pushed c.loop-s.values.items _ c.push.new.self.items c.loop-s.s (λ s. c.args.from + s)
      c.loop-s.invariant.count c.in_ok-push.ensures.items refl c.loop-s.invariant.each;
}
