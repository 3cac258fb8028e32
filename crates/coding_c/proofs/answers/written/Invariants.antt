use Rattle.std.proofs.Common.{◌≡◌, map, take}
use Rattle.std.specs.List.{flat_map}
use Rattle.cw_tree.specs.Formats.{chunk_bytes}
use Rattle.coding_c.specs.Calls.{content, size_of}
use Rattle.coding_c.proofs.answers.written.Given as goal

abbrev pub invariant-loop-chunk : goal.invariant-loop-chunk
invariant-loop-chunk l = record {
  bytes : l.bytes.items ≡ flat_map (chunk_bytes content) (take l.chunk-index l.chunks);
  sizes : l.sizes.items ≡ map size_of (take l.chunk-index l.chunks);
}
