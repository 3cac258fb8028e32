use Rattle.std.proofs.Common.{◌+◌, map}
use Rattle.cw_base.specs.Rows.{row_of}
use Rattle.coding_c.specs.Shards.{ArePut}
use Rattle.coding_c.proofs.shards.put_rows.Given as goal

abbrev pub invariant-loop-i : goal.invariant-loop-i
invariant-loop-i l =
    ArePut l.i (λ i. row_of l.rows l.width (l.first + i)) (map (λ b. b.bytes.now) l.initial.buffers)
    (map (λ b. b.bytes.now) l.buffers)
