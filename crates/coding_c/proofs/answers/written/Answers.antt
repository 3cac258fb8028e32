use Rattle.std.proofs.Common.{◌<◌, [], length, length-append, ap, arith}
use Rattle.cw_tree.specs.Formats.{chunk_bytes}
use Rattle.cw_tree.proofs.Written.{item_more}
use Rattle.coding_c.specs.Calls.{content, size_of}
use Rattle.coding_c.proofs.Written.{size_more}
use Rattle.coding_c.proofs.answers.written.Goals as goal

pub loop-chunk-preserved : goal.loop-chunk-preserved
loop-chunk-preserved c =
    let within : c.loop-chunk.chunk-index < length c.args.chunks.now = omega arith in
    let own = chunk_bytes content c.chunk-item.result in
    record {
      bytes =
          item_more (chunk_bytes content) c.args.chunks.now c.loop-chunk.chunk-index
          c.chunk-item.result [] c.loop-chunk.bytes.items c.write.new.out.items within
          c.chunk-item.is c.loop-chunk.invariant.bytes c.in_ok-write.ensures.ok;
      sizes =
          size_more size_of c.args.chunks.now c.loop-chunk.chunk-index c.chunk-item.result
          c.loop-chunk.sizes.items _ _ within c.chunk-item.is c.loop-chunk.invariant.sizes
          c.in_ok-push.ensures.items
          (omega (
            arith,
            ap length c.in_ok-write.ensures.ok,
            length-append c.loop-chunk.bytes.items own,
          ));
    }
