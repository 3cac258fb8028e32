-- What notes are looked up by.
use Rattle.std.specs.Prelude.{List, Option}
use Rattle.cw_base.specs.declared.hash.Digest32.{Digest32}
use Rattle.cw_types.specs.declared.note.Note.{Note}
use Rattle.marshal.specs.Digests.{HaveDigests}
use Rattle.marshal.specs.Placed.{HasPlaces}
use Rattle.marshal.specs.Reach.{HasFinals}
use Rattle.marshal.specs.Rounds.{HasVerified}
use Rattle.marshal.specs.Certs.{HasCerts}
use Rattle.marshal.specs.declared.index.Index.{Index}

-- an index of notes, beside which stand the digests of their blocks: it has where the first Block
-- note of each commitment stands, the first finalization of each payload, the first certificate of
-- each vote, and each digest; and what was verified last in each round
pub record IsIndexOf (notes : List Note) (digests : List (Option Digest32))
    (index : Index) : Type 0 where
  pub placed : HasPlaces index.places.entries notes
  pub finalized : HasFinals index.finals.entries notes
  pub digested : HaveDigests digests index.by_digest.first.entries index.by_digest.again.entries
  pub certified : HasCerts index.certs.first.entries notes
  pub verified : HasVerified index.by_round.last.entries notes
