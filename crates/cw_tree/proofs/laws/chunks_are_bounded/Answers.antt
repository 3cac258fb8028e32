use Rattle.std.proofs.Common.{◌+◌, ◌*◌, ◌≤◌, length, arith}
use Rattle.cw_tree.proofs.Bounds.{proof_bytes-le, chunk_bytes-le}
use Rattle.cw_tree.specs.Formats.{chunk_bytes}
use Rattle.cw_tree.proofs.laws.chunks_are_bounded.Goals as goal

pub returns : goal.returns
returns g c =
    let content = g.D.Digest.content in
    let size = g.D.Digest.SIZE in
    record {
      proof =
          λ leaf_count most siblings sized few. proof_bytes-le content size most leaf_count siblings
          sized few;
      chunk = λ shard most p sized narrow few.
          let own : length (chunk_bytes content p) ≤ 12 + length p.shard + size * most =
          chunk_bytes-le content size most p sized few in
          omega arith;
    }
