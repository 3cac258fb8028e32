use Rattle.std.proofs.Common.{[], ℕ, ◌∷◌, ap, arith, map, nat_lt, not, refl}
use Rattle.std.specs.List.{flat_map}
use Rattle.cw_coding.specs.Checked.{Checked}
use Rattle.cw_coding.specs.Decoding.{indices_of}
use Rattle.cw_coding.proofs.OrderLaws.{taken_more, taken_all}
use Rattle.cw_coding.proofs.gathering.put_recoveries.Goals as goal

pub loop-chunk-preserved : goal.loop-chunk-preserved
loop-chunk-preserved g c = record {
  indices =
      taken_more indices_of (λ (x : Checked _). not (nat_lt x.index c.args.k)) c.args.shards.now
      c.loop-chunk.chunk-index c.chunk-item.result _ (c.chunk-item.result.index ∷ []) _ _ _
      (λ rest. refl) c.loop-chunk-test.true c.chunk-item.is
      (ap (λ (i : ℕ). not (nat_lt i c.args.k)) c.index.ensures) c.in_ok-put_if.ensures.indices
      c.loop-chunk.invariant.indices;
  rows =
      taken_more (flat_map (λ (x : Checked _). x.shard))
      (λ (x : Checked _). not (nat_lt x.index c.args.k)) c.args.shards.now c.loop-chunk.chunk-index
      c.chunk-item.result _ c.chunk-item.result.shard _ _ _ (λ rest. refl)
      c.loop-chunk-test.true c.chunk-item.is
      (ap (λ (i : ℕ). not (nat_lt i c.args.k)) c.index.ensures) c.in_ok-put_if.ensures.rows
      c.loop-chunk.invariant.rows;
  digests =
      taken_more (map (λ (x : Checked _). g.H.Hasher.digest_of x.shard))
      (λ (x : Checked _). not (nat_lt x.index c.args.k)) c.args.shards.now c.loop-chunk.chunk-index
      c.chunk-item.result _ (g.H.Hasher.digest_of c.chunk-item.result.shard ∷ []) _ _ _
      (λ rest. refl) c.loop-chunk-test.true c.chunk-item.is
      (ap (λ (i : ℕ). not (nat_lt i c.args.k)) c.index.ensures) c.in_ok-put_if.ensures.digests
      c.loop-chunk.invariant.digests;
}

pub returns-clause-indices : goal.returns-clause-indices
returns-clause-indices g c =
    taken_all indices_of (λ (x : Checked _). not (nat_lt x.index c.args.k)) c.args.shards.now
    c.loop-chunk.chunk-index _ _ refl (omega arith) c.loop-chunk.invariant.indices

pub returns-clause-rows : goal.returns-clause-rows
returns-clause-rows g c =
    taken_all (flat_map (λ (x : Checked _). x.shard))
    (λ (x : Checked _). not (nat_lt x.index c.args.k))
    c.args.shards.now c.loop-chunk.chunk-index _ _ refl (omega arith) c.loop-chunk.invariant.rows

pub returns-clause-digests : goal.returns-clause-digests
returns-clause-digests g c =
    taken_all (map (λ (x : Checked _). g.H.Hasher.digest_of x.shard))
    (λ (x : Checked _). not (nat_lt x.index c.args.k)) c.args.shards.now
    c.loop-chunk.chunk-index _ _ refl (omega arith) c.loop-chunk.invariant.digests
