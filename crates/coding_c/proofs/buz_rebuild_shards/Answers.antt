use Rattle.std.proofs.Common.{◌≡◌, ℕ, ◌+◌, ◌*◌, ◌%◌, ◌<◌, List, length, map, slice_index, take, ap, sym, subst, ◌∙◌, arith}
use Rattle.rs_code.specs.Rows.{code_row}
use Rattle.rs_code.proofs.RowBytes.{length-joined}
use Rattle.cw_coding.proofs.LayoutLaws.{length-code_row}
use Rattle.coding_c.specs.Shards.{ArePut, AreShards, end_to_end, first_width, rebuilt_of}
use Rattle.coding_c.specs.declared.shards.Span.{Span}
use Rattle.coding_c.specs.declared.shards.Room.{Room}
use Rattle.coding_c.proofs.Buffers.{joined_put, length-row_through}
use Rattle.coding_c.proofs.buz_rebuild_shards.Goals as goal

abbrev all : List Span → List (List ℕ)
all shards = map (λ (s : Span). s.bytes.now) shards

abbrev rooms : List Room → List (List ℕ)
rooms buffers = map (λ (b : Room). b.bytes.now) buffers

length-rebuilt : (k : ℕ) (indices : List ℕ) (shards : List (List ℕ)) (targets : List ℕ)
    (width : ℕ)
    → width ≡ first_width shards → AreShards k shards → (i : ℕ) → i < length targets
    → length (rebuilt_of k indices shards targets i) ≡ width
length-rebuilt k indices shards targets width wide are i l =
    length-row_through k (λ s. slice_index (take k indices) s) (end_to_end k shards)
    (first_width shards) (slice_index targets i) are.even
    ∙ sym wide

pub put_rows-requires-clause-rows : goal.put_rows-requires-clause-rows
put_rows-requires-clause-rows c =
    let found = c.in-Ok.ensures.done in
    let long =
    length-joined (length c.args.targets.now) c.in-Ok.width
    (rebuilt_of c.args.k c.args.indices.now (all c.args.shards.now) c.args.targets.now)
    (length-rebuilt c.args.k c.args.indices.now (all c.args.shards.now) c.args.targets.now
    c.in-Ok.width found.4 found.3) in
    ap length c.deref.ensures.value ∙ ap length c.in-Ok-rebuilt.ensures.done ∙ long
    ∙ (let none : length c.args.targets.now ≡ 0 + length c.args.targets.now = omega arith in
    ap (λ (n : ℕ). n * c.in-Ok.width) none)

pub returns-clause-done : goal.returns-clause-done
returns-clause-done c = λ _.
    let found = c.in-Ok.ensures.done in (
      found.3,
      joined_put (length c.args.targets.now) c.in-Ok.width
          (rebuilt_of c.args.k c.args.indices.now (all c.args.shards.now) c.args.targets.now)
          c.deref.result.now c.in-Ok-rebuilt.rows.items (rooms c.args.buffers.now)
          (rooms c.put_rows.new.buffers)
          (length-rebuilt c.args.k c.args.indices.now (all c.args.shards.now) c.args.targets.now
          c.in-Ok.width found.4 found.3)
          c.deref.ensures.value c.in-Ok-rebuilt.ensures.done c.put_rows.ensures,
    )

pub returns-clause-codeword : goal.returns-clause-codeword
returns-clause-codeword c = λ _ originals are.
    let found = c.in-Ok.ensures.done in
    let even : c.in-Ok.width % 2 ≡ 0 = rw found.4 found.3.even in
    subst
    (λ (w : ℕ). ArePut (length c.args.targets.now)
    (λ i. code_row c.args.k originals w (slice_index c.args.targets.now i))
    (rooms c.args.buffers.now) (rooms c.put_rows.new.buffers))
    found.4
    (joined_put (length c.args.targets.now) c.in-Ok.width
    (λ i. code_row c.args.k originals c.in-Ok.width (slice_index c.args.targets.now i))
    c.deref.result.now c.in-Ok-rebuilt.rows.items (rooms c.args.buffers.now)
    (rooms c.put_rows.new.buffers)
    (λ i l. length-code_row c.args.k originals c.in-Ok.width (slice_index c.args.targets.now i)
    even)
    c.deref.ensures.value (c.in-Ok-rebuilt.ensures.codeword originals are) c.put_rows.ensures)
