-- Where the first certificate of each vote stands.
use Rattle.std.specs.Prelude.{ℕ, Bool, List, false}
use Rattle.cw_types.specs.declared.note.Note.{Note}
use Rattle.marshal.specs.Placed.{HasFirsts}
use Rattle.note_scans.specs.Keys.{key_of, same_key}
use Rattle.note_scans.specs.declared.key.VoteKey.{VoteKey}

-- the note is a certificate of the vote with that key
abbrev pub is_cert_keyed : VoteKey → Note → Bool
is_cert_keyed q (Note.Cert s) = same_key q (key_of s.vote)
is_cert_keyed q _ = false

-- a map has the place of the first certificate of each vote
abbrev pub HasCerts : List (VoteKey × ℕ) → List Note → Type 0
HasCerts = HasFirsts same_key is_cert_keyed
