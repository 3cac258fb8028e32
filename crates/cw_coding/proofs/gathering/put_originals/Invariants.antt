use Rattle.std.proofs.Common.{◌++◌, ◌≡◌, drop, filter, map, nat_lt}
use Rattle.std.specs.List.{flat_map}
use Rattle.cw_coding.specs.Decoding.{indices_of}
use Rattle.cw_coding.proofs.gathering.put_originals.Given as goal

abbrev pub invariant-loop-chunk : goal.invariant-loop-chunk
invariant-loop-chunk g l =
    record {
      indices : l.indices.items
          ++ indices_of (filter (λ c. nat_lt c.index l.k) (drop l.chunk-index l.shards))
          ≡ l.fn.indices.items ++ indices_of (filter (λ c. nat_lt c.index l.k) l.shards);
      rows : l.rows.items
          ++ flat_map (λ c. c.shard)
          (filter (λ c. nat_lt c.index l.k) (drop l.chunk-index l.shards))
          ≡ l.fn.rows.items ++ flat_map (λ c. c.shard) (filter (λ c. nat_lt c.index l.k) l.shards);
      digests : l.digests.items
          ++ map (λ c. g.H.Hasher.digest_of c.shard)
          (filter (λ c. nat_lt c.index l.k) (drop l.chunk-index l.shards))
          ≡ l.fn.digests.items
          ++ map (λ c. g.H.Hasher.digest_of c.shard) (filter (λ c. nat_lt c.index l.k) l.shards);
    }
