use Rattle.std.proofs.Common.{ap, ◌∙◌, ◌++◌}
use Rattle.cw_tree.specs.Formats.{chunk_at, piece_of_bytes}
use Rattle.cw_tree.proofs.FormatLaws.{chunk_reads_back, chunk_bytes_same, pieces_told}
use Rattle.cw_tree.proofs.laws.chunks_with_digests_read_back.Goals as goal

pub returns : goal.returns
returns g c =
    let content = g.D.Digest.content in
    let size = g.D.Digest.SIZE in
    let laws =
    g.met.D.Digest g.world.𝓛 g.world.𝓜 g.world.𝓡 ((λ s x. x), (λ x. x), (λ x. x), λ x. x) in
    record {
      again = λ bound p rest fits.
          ap (λ bytes. chunk_at size bound (bytes ++ rest)) (chunk_bytes_same content p)
          ∙ (chunk_reads_back size bound).again (piece_of_bytes content p) rest fits;
      told = pieces_told content laws.told_by_bytes;
    }
