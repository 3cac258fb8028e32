use Rattle.std.proofs.Common.{refl}
use Rattle.rs_code.proofs.RowFronts.{number_pushed, one_longer}
use Rattle.rs_code.proofs.striped.stripe_indices.Goals as goal

pub loop-index-preserved : goal.loop-index-preserved
loop-index-preserved c = record {
  count =
      one_longer c.loop-index.indices.items _ c.push.new.self.items c.loop-index.index
      c.loop-index.invariant.count c.in_ok-push.ensures.items;
  each =
      number_pushed c.loop-index.indices.items _ c.push.new.self.items c.loop-index.index (λ i. i)
      c.loop-index.invariant.count c.in_ok-push.ensures.items refl c.loop-index.invariant.each;
}
