-- A chunk that is read with the bytes of its siblings is read with its siblings as digests.
use Rattle.std.proofs.Common.{ℕ, List, Result, Ok, Err, ap, ◌∙◌}
use Rattle.cw_base.specs.declared.hash.Digest32.{Digest32}
use Rattle.cw_base.specs.declared.reader.CodecError.{CodecError}
use Rattle.cw_base.specs.Reading.{Reading, Gives}
use Rattle.cw_tree.specs.Chunks.{Piece}
use Rattle.cw_tree.specs.Formats.{piece_of_bytes}
use Rattle.cw_types.proofs.Refused.{refused_as}
use Rattle.cw_types.proofs.MessageLaws.{digests_back}
use Rattle.cw_types.specs.Commit.{digest_bytes}
use Rattle.cw_types.specs.Reading.{as_read, with_digests}

pub gives_digests : (result : Result (Piece Digest32) CodecError) (left : List ℕ)
    (read : Reading (Piece (List ℕ)))
    →
    Gives (λ p. piece_of_bytes digest_bytes p) result left read
    → Gives (λ p. p) result left (as_read with_digests read)
gives_digests (Ok p) left read h =
    ap (as_read with_digests) h
    ∙ ap (λ (q : Piece Digest32). let x : Reading (Piece Digest32) = Ok (q, left) in x)
    (digests_back p)
gives_digests (Err e) left read h = refused_as with_digests e left read h
