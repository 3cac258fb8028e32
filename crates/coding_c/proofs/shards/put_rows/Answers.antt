use Rattle.std.proofs.Common.{◌≡◌, ℕ, ◌+◌, ◌*◌, ◌<◌, ◌≤◌, List, length, refl, ap, map, [], arith, suc}
use Rattle.std.proofs.Math.Nat.{mul-le-mul_right}
use Rattle.std.proofs.lemmas.List.{length-map}
use Rattle.cw_base.specs.Rows.{row_of}
use Rattle.coding_c.specs.declared.shards.Room.{Room}
use Rattle.coding_c.proofs.Buffers.{still, put_next, room_at}
use Rattle.coding_c.proofs.shards.put_rows.Goals as goal

abbrev none : Room
none = record { bytes = record { ref_ptr = (0, 0); ghost_name = 0; now = [] } }

pub nth_row-requires : goal.nth_row-requires
nth_row-requires c =
    let whole : suc (c.args.first + c.loop-i.i) * c.args.width
    ≤ (c.args.first + c.args.count) * c.args.width =
    mul-le-mul_right c.args.width (omega (arith, c.loop-i-test.true)) in
    let step : suc (c.args.first + c.loop-i.i) * c.args.width
    ≡ (c.args.first + c.loop-i.i) * c.args.width + c.args.width = omega arith in
    record { within = omega (arith, whole, step, c.requires.rows) }

pub put_row-requires : goal.put_row-requires
put_row-requires c =
    let room =
    room_at c.args.count c.args.width (map (λ b. b.bytes.now) c.args.buffers.now) c.requires.room
    c.loop-i.i c.loop-i-test.true in
    let same =
    still (λ (r : Room). r.bytes.now) none refl c.args.buffers.now c.loop-i.buffers c.loop-i.i
    (λ i. row_of c.args.rows.now c.args.width (c.args.first + i)) c.loop-i.invariant in
    record { room = omega (arith, room, ap length same, c.nth_row.ensures.long) }

pub loop-i-preserved : goal.loop-i-preserved
loop-i-preserved c =
    let many = c.requires.room.enough in
    let within : c.loop-i.i < length c.loop-i.buffers =
    omega (
      arith,
      c.loop-i-test.true,
      c.loop-i.auto.buffers,
      many,
      length-map c.args.buffers.now (λ (r : Room). r.bytes.now),
    ) in
    put_next (λ (r : Room). r.bytes.now) none refl c.args.buffers.now c.loop-i.buffers c.loop-i.i
    c.put_row.new.buffer (λ i. row_of c.args.rows.now c.args.width (c.args.first + i)) within
    c.loop-i.invariant
    (rw (← c.nth_row.ensures.value) c.put_row.ensures)
