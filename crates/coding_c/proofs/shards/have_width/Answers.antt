use Rattle.std.proofs.Common.{◌≡◌, ℕ, ◌<◌, ◌≤◌, ◌%◌, List, [], All, get_or, take, length, map, refl, ap, ◌∙◌, arith}
use Rattle.std.proofs.lemmas.Bool.{false≢true}
use Rattle.std.proofs.lemmas.List.{length-map}
use Rattle.coding_c.specs.declared.shards.Span.{Span}
use Rattle.coding_c.proofs.Buffers.{bytes_at, all_below, below_next, one_below}
use Rattle.coding_c.proofs.shards.have_width.Goals as goal

abbrev none : Span
none = record { bytes = record { ref_ptr = (0, 0); now = [] } }

abbrev all : List Span → List (List ℕ)
all shards = map (λ (s : Span). s.bytes.now) shards

pub returns-then-shards-i : goal.returns-then-shards-i
returns-then-shards-i c =
    let enough : c.args.count ≤ length (all c.args.shards.now) =
    omega (
      arith,
      c.requires.enough,
      length-map c.args.shards.now (λ (s : Span). s.bytes.now),
    ) in (
      λ e. absurd (false≢true e),
      λ have. absurd
          (let one =
          one_below (λ s. length s ≡ c.args.width) c.args.count (all c.args.shards.now) enough have.2
          c.loop-i.i c.loop-i-test.true in
          let same = bytes_at (λ (s : Span). s.bytes.now) none refl c.args.shards.now c.loop-i.i in
          omega (arith, one, ap length same, c.if-shards-i.true)),
    )

pub loop-i-preserved : goal.loop-i-preserved
loop-i-preserved c =
    let same = bytes_at (λ (s : Span). s.bytes.now) none refl c.args.shards.now c.loop-i.i in
    below_next (λ j. length (get_or (all c.args.shards.now) j []) ≡ c.args.width) c.loop-i.i
    c.loop-i.invariant (omega (arith, ap length same, c.if-shards-i.false))

pub returns : goal.returns
returns c =
    let enough : c.args.count ≤ length (all c.args.shards.now) =
    omega (
      arith,
      c.requires.enough,
      length-map c.args.shards.now (λ (s : Span). s.bytes.now),
    ) in
    let each : All (λ s. length s ≡ c.args.width) (take c.args.count (all c.args.shards.now)) =
    all_below (λ s. length s ≡ c.args.width) c.args.count (all c.args.shards.now) enough
    (λ j l. c.loop-i.invariant j (omega (arith, l, c.loop-i-test.false))) in
    let some = c.if-width-eq0.false in
    (λ _. (omega (arith, some), c.if-width-ne0.false, each), λ _. refl)
