use Rattle.std.proofs.Common.{◌≡◌, ℕ, ◌+◌, ◌*◌, ◌<◌, ◌≤◌, List, [], ◌++◌, get_or, length, map, take, refl, sym, ap, ◌∙◌, arith}
use Rattle.std.specs.List.{flat_map}
use Rattle.std.proofs.lemmas.List.{length-append}
use Rattle.coding_c.specs.Shards.{first_width}
use Rattle.coding_c.specs.declared.shards.Span.{Span}
use Rattle.coding_c.proofs.Buffers.{bytes_at, one_below, end_next}
use Rattle.coding_c.proofs.shards.gathered.Goals as goal

abbrev none : Span
none = record { bytes = record { ref_ptr = (0, 0); now = [] } }

abbrev all : List Span → List (List ℕ)
all shards = map (λ (s : Span). s.bytes.now) shards

pub loop-i-preserved : goal.loop-i-preserved
loop-i-preserved c =
    let i : ℕ = c.loop-i.i in
    let shards : List (List ℕ) = all c.args.shards.now in
    let many = c.requires.shards.enough in
    let within : i < length shards = omega (arith, c.loop-i-test.true, many, c.from-i-end.ensures)
    in
    let below : i < c.args.k = omega (arith, c.loop-i-test.true, c.from-i-end.ensures) in
    let same = bytes_at (λ (s : Span). s.bytes.now) none refl c.args.shards.now i in
    let put : c.put_bytes.new.out.items ≡ c.loop-i.rows.items ++ get_or shards i [] =
    c.in_ok-put_bytes.ensures.ok ∙ ap (λ (xs : List ℕ). c.loop-i.rows.items ++ xs) (sym same) in
    let wide : length (get_or shards i []) ≡ first_width shards =
    one_below (λ s. length s ≡ first_width shards) c.args.k shards many c.requires.shards.same i
    below in
    let step : (i + 1) * c.args.width ≡ i * c.args.width + c.args.width = omega arith in
    record {
      bytes = put
          ∙ ap (λ (xs : List ℕ). xs ++ get_or shards i []) c.loop-i.invariant.bytes
          ∙ sym (end_next shards i within);
      long = omega (
        arith,
        ap length put,
        length-append c.loop-i.rows.items (get_or shards i []),
        c.loop-i.invariant.long,
        wide,
        c.requires.width,
        step,
      );
    }
