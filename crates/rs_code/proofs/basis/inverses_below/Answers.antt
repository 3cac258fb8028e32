use Rattle.std.proofs.Common.{length, ap, arith}
use Rattle.rs_code.proofs.basis.inverses_below.Goals as goal

pub loop-element-init : goal.loop-element-init
loop-element-init c = record {
  count = ap length c.new-inverses.ensures.items;
  each = λ a h _. absurd (omega (arith, h));
}
