use Rattle.std.proofs.Common.{◌≡◌, ◌*◌, length, map, take}
use Rattle.std.specs.List.{flat_map}
use Rattle.coding_c.proofs.shards.gathered.Given as goal

abbrev pub invariant-loop-i : goal.invariant-loop-i
invariant-loop-i l = record {
  bytes : l.rows.items ≡ flat_map (λ shard. shard) (take l.i (map (λ s. s.bytes.now) l.shards));
  long : length l.rows.items ≡ l.i * l.width;
}
