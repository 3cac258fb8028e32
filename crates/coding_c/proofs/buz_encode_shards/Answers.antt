use Rattle.std.proofs.Common.{List, ℕ, map}
use Rattle.coding_c.specs.declared.shards.Span.{Span}
use Rattle.coding_c.specs.declared.shards.Room.{Room}
use Rattle.coding_c.proofs.Buffers.{recoveries_put}
use Rattle.coding_c.proofs.buz_encode_shards.Goals as goal

abbrev all : List Span → List (List ℕ)
all shards = map (λ (s : Span). s.bytes.now) shards

abbrev rooms : List Room → List (List ℕ)
rooms buffers = map (λ (b : Room). b.bytes.now) buffers

pub returns-clause-done : goal.returns-clause-done
returns-clause-done c = λ _.
    let found = c.in-Ok.ensures.done in
    let rows = c.in-Ok-codeword_of.ensures in (
      found.3,
      recoveries_put c.args.k c.args.m c.from-first.result c.from-count.result c.in-Ok.width
          (all c.args.shards.now) c.deref.result.now c.in-Ok-codeword_of.rows.items
          (rooms c.args.recoveries.now) (rooms c.put_rows.new.buffers) c.from-first.ensures
          c.from-count.ensures found.4 found.3 c.deref.ensures.value rows.value rows.long
          c.put_rows.ensures,
    )
