use Rattle.std.proofs.Common.{◌+◌, ◌*◌, ◌≤◌, sym, ◌∙◌, arith}
use Rattle.std.proofs.Math.Nat.{mul-le-mul_right}
use Rattle.cw_base.proofs.Listed.{listed_none, push_listed}
use Rattle.cw_coding.proofs.encoding.cut.Goals as goal

pub loop-i-init : goal.loop-i-init
loop-i-init g c = c.new-chunks.ensures.items ∙ sym (listed_none _)

pub loop-i-preserved : goal.loop-i-preserved
loop-i-preserved g c =
    push_listed _ _ _ _ _ c.loop-i.invariant c.in_ok-push.ensures.items c.in_ok-chunk.ensures

pub cut_one-requires-clause-row : goal.cut_one-requires-clause-row
cut_one-requires-clause-row g c = λ κs h.
    let room : (c.loop-i.i + 1) * c.args.width ≤ c.args.count * c.args.width =
    mul-le-mul_right c.args.width (omega arith) in
    omega (arith, room, c.requires.rows)
