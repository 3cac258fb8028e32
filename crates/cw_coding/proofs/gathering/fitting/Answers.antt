use Rattle.std.proofs.Common.{◌≡◌, ℕ, ◌<◌, Bool, true, false, List, take, get_or, Contains, refl, sym, ap, subst, ◌∙◌, arith, inr}
use Rattle.std.proofs.lemmas.List.{length-set, length-map, take-map, take_all, get_or_default}
use Rattle.std.proofs.lemmas.Option.{slice_get_read}
use Rattle.rs_code.proofs.IndexLaws.{seen_more}
use Rattle.cw_coding.specs.Checked.{Checked}
use Rattle.cw_coding.specs.Decoding.{indices_of}
use Rattle.cw_coding.proofs.DecodingLaws.{fit_more}
use Rattle.cw_coding.proofs.OrderLaws.{index_at}
use Rattle.cw_coding.proofs.gathering.fitting.Goals as goal

-- the indices of the first chunks
first_indices : {D : Type 0} (n : ℕ) (chunks : List (Checked D)) (i : ℕ)
    → Contains (take n (indices_of chunks)) i → Contains (indices_of (take n chunks)) i
first_indices n chunks i h =
    subst (λ (xs : List ℕ). Contains xs i) (take-map (λ (x : Checked _). x.index) n chunks) h

both : (b : Bool) → b ≡ true → b ≡ false → ⊥
both b t f = cc

pub returns-in-Err : goal.returns-in-Err
returns-in-Err g c =
    inr (record {
      place = c.loop-chunk.chunk-index;
      chunk = c.chunk-item.result;
      at =
          slice_get_read c.args.shards.now _ c.loop-chunk.chunk-index c.chunk-item.result refl
          c.loop-chunk-test.true c.chunk-item.is;
      before = c.loop-chunk.invariant.fit;
      misfit = c.in-Err.ensures (take c.loop-chunk.chunk-index c.args.shards.now);
    })

pub returns-then-index : goal.returns-then-index
returns-then-index g c =
    let given : List Bool = c.loop-chunk.given.items in
    let index : ℕ = c.chunk-item.result.index in
    let below : index < c.args.total = c.in_default-stray.ensures.2 in
    let at : c.from-index.result ≡ index = c.from-index.ensures ∙ c.index.ensures in
    let marked : get_or given index false ≡ true =
    get_or_default given index false c.index-in-loop-chunk.result.now
    (omega (arith, c.loop-chunk.invariant.count, below))
    ∙ ap (λ (i : ℕ). get_or given i c.index-in-loop-chunk.result.now) (sym at)
    ∙ sym c.index-in-loop-chunk.ensures ∙ c.if-index.true in
    inr (record {
      place = c.loop-chunk.chunk-index;
      chunk = c.chunk-item.result;
      at =
          slice_get_read c.args.shards.now _ c.loop-chunk.chunk-index c.chunk-item.result refl
          c.loop-chunk-test.true c.chunk-item.is;
      before = c.loop-chunk.invariant.fit;
      misfit = (
        c.in_default-stray.ensures.0,
        c.in_default-stray.ensures.1,
        c.index-then-index.ensures,
        below,
        first_indices c.loop-chunk.chunk-index c.args.shards.now index
            (c.loop-chunk.invariant.was_given index below marked),
      );
    })

pub loop-chunk-preserved : goal.loop-chunk-preserved
loop-chunk-preserved g c =
    let n : ℕ = c.loop-chunk.chunk-index in
    let given : List Bool = c.loop-chunk.given.items in
    let index : ℕ = c.chunk-item.result.index in
    let below : index < c.args.total = c.in_default-stray.ensures.2 in
    let at : c.from-index.result ≡ index = c.from-index.ensures ∙ c.index.ensures in
    let unmarked : get_or given index false ≡ false =
    ap (λ (i : ℕ). get_or given i false) (sym at)
    ∙ ap (λ (b : Bool). get_or given c.from-index.result b) (sym c.if-index.false)
    ∙ sym c.index-in-loop-chunk.ensures ∙ c.if-index.false in
    let here : get_or (indices_of c.args.shards.now) n 0 ≡ index =
    index_at c.args.shards.now n c.chunk-item.result c.loop-chunk-test.true
    ∙ ap (λ (x : Checked _). x.index) (sym c.chunk-item.is) in
    let marks = seen_more c.args.total n c.from-index.result (indices_of c.args.shards.now) given
    (omega
    (arith, length-map c.args.shards.now (λ (x : Checked _). x.index), c.loop-chunk-test.true))
    (at ∙ sym here) c.loop-chunk.invariant.count (omega (arith, at, below))
    c.loop-chunk.invariant.was_given c.loop-chunk.invariant.is_marked in
    record {
      fit =
          fit_more c.args.total c.args.root.now c.args.width c.args.shards.now n c.chunk-item.result
          c.loop-chunk-test.true c.chunk-item.is c.loop-chunk.invariant.fit
          c.in_default-stray.ensures.0 c.in_default-stray.ensures.1 below
          (λ h. both (get_or given index false) (c.loop-chunk.invariant.is_marked index
          (subst (λ (xs : List ℕ). Contains xs index)
          (sym (take-map (λ (x : Checked _). x.index) n c.args.shards.now)) h))
          unmarked);
      count = length-set given c.from-index.result true ∙ c.loop-chunk.invariant.count;
      was_given = marks.0;
      is_marked = marks.1;
    }

pub returns : goal.returns
returns g c =
    let all : take c.loop-chunk.chunk-index c.args.shards.now ≡ c.args.shards.now =
    take_all c.loop-chunk.chunk-index c.args.shards.now (omega arith) in
    rw all at c.loop-chunk.invariant.fit
