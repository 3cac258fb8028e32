use Rattle.cw_tree.specs.Formats.{widest}
use Rattle.cw_coding.proofs.CheckingLaws.{checks, fits, in_format}
use Rattle.cw_coding.proofs.AnyLaws.{decoded_to}
use Rattle.cw_coding.proofs.laws.encodings_decode.Goals as goal

pub returns : goal.returns
returns g c =
    let hash = g.H.Hasher.digest_of in
    let content = g.H.Digest.Digest.content in
    let laws =
    g.met.H.Hasher g.world.𝓛 g.world.𝓜 g.world.𝓡 ((λ s x. x), (λ x. x), (λ x. x), λ x. x) in
    record {
      checks = λ c t r ps some e i p at. checks hash content c t r ps some e i p at;
      fits =
          λ c t r ps most levels some e short height i p at. fits hash content c t r ps some e i p
          at g.H.Digest.Digest.SIZE most levels laws.sized short height;
      read_back = λ s t r ps most some e short i p at.
          let format =
          in_format hash content s t r ps some e i p at g.H.Digest.Digest.SIZE most laws.sized
          short in
          record {
            fits = format;
            again =
                λ rest. c.chunks_with_digests_read_back.ensures.again (widest s.minimum most) p rest
                format;
          };
      any_enough = λ s t r ps chunks some bytes e of sound enough.
          decoded_to hash content s t r ps chunks some bytes e of sound enough
          c.prove_rows.ensures.originals c.prove_rows.ensures.any_rows;
    }
