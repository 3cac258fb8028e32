use Rattle.std.proofs.Common.{◌≡◌, ℕ, ◌<◌, ◌≤◌, List, [], All, get_or, take, length, map, refl, ap, arith}
use Rattle.std.proofs.lemmas.Bool.{false≢true}
use Rattle.std.proofs.lemmas.List.{length-map}
use Rattle.coding_c.specs.declared.shards.Room.{Room}
use Rattle.coding_c.proofs.Buffers.{bytes_at, all_below, below_next, room_at}
use Rattle.coding_c.proofs.shards.have_room.Goals as goal

abbrev none : Room
none = record { bytes = record { ref_ptr = (0, 0); ghost_name = 0; now = [] } }

abbrev all : List Room → List (List ℕ)
all buffers = map (λ (b : Room). b.bytes.now) buffers

pub returns-then-buffers-i : goal.returns-then-buffers-i
returns-then-buffers-i c = (
  λ e. absurd (false≢true e),
  λ have. absurd
      (let room =
      room_at c.args.count c.args.width (all c.args.buffers.now) have c.loop-i.i
      c.loop-i-test.true in
      let same = bytes_at (λ (b : Room). b.bytes.now) none refl c.args.buffers.now c.loop-i.i in
      omega (arith, room, ap length same, c.if-buffers-i.true)),
)

pub loop-i-preserved : goal.loop-i-preserved
loop-i-preserved c =
    let same = bytes_at (λ (b : Room). b.bytes.now) none refl c.args.buffers.now c.loop-i.i in
    below_next (λ j. c.args.width ≤ length (get_or (all c.args.buffers.now) j [])) c.loop-i.i
    c.loop-i.invariant (omega (arith, ap length same, c.if-buffers-i.false))

pub returns : goal.returns
returns c =
    let enough : c.args.count ≤ length (all c.args.buffers.now) =
    omega (
      arith,
      c.if-buffers-count.false,
      length-map c.args.buffers.now (λ (b : Room). b.bytes.now),
    ) in
    let each : All (λ b. c.args.width ≤ length b) (take c.args.count (all c.args.buffers.now)) =
    all_below (λ b. c.args.width ≤ length b) c.args.count (all c.args.buffers.now) enough
    (λ j l. c.loop-i.invariant j (omega (arith, l, c.loop-i-test.false))) in
    (λ _. record { enough = enough; each = each }, λ _. refl)
