use Rattle.std.proofs.Common.{◌≡◌, map}
use Rattle.cw_base.specs.Rows.{listed, row_of}
use Rattle.cw_base.proofs.rows.rows_of.Given as goal

abbrev pub invariant-loop-i : goal.invariant-loop-i
invariant-loop-i l = map (λ row. row.now) l.slices.items ≡ listed l.i (λ i. row_of l.rows l.width i)
