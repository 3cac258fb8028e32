use Rattle.std.proofs.Common.{◌∙◌, arith}
use Rattle.rs_code.proofs.pairs.fill_table.Goals as goal

pub returns : goal.returns
returns c = λ b l hb hl.
    c.put_first_lanes.ensures b l (omega (arith, hb, c.spread.ensures.count)) hl
    ∙ c.spread.ensures.each b l hb (omega (arith, hl))
