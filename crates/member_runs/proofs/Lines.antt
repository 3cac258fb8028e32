-- What a line brings was read from bytes.
use Rattle.std.proofs.Common.{◌≡◌, ℕ, Bool, true, false, if◌then◌else◌, List, [], ◌∷◌, Option, Some, None, Result, Ok, refl, option_and_then}
use Rattle.std.specs.Prelude.{bytes_eq, codes}
use Rattle.cw_base.specs.declared.hash.Digest32.{Digest32}
use Rattle.cw_types.specs.Reading.{message_of}
use Rattle.cw_types.specs.declared.commitment.Commitment.{Commitment}
use Rattle.cw_types.specs.declared.message.Message.{Message}
use Rattle.cw_types.specs.declared.vote.Vote.{Vote}
use Rattle.cw_types.specs.declared.vote.Vote.TheVariants.{Finalize, Notarize, Nullify}
use Rattle.hail_script.specs.Grammar.{is_oversize}
use Rattle.hail_script.specs.Pieces.{bytes_in, fields, number}
use Rattle.member_lines.specs.HostLines.{alone, alone_behind, asked_block, claim_in, commitment_in, delivered, digest_in, floored, given_up, host_line, host_line_in, number_asked, number_or_bytes, or_syntax, watched, with_bytes, with_field}
use Rattle.member_lines.specs.declared.claim.Claim.{Claim}
use Rattle.member_lines.specs.declared.line.HostLine.{HostLine}
use Rattle.member_lines.specs.declared.line.HostLine.TheVariants.{Take}
use Rattle.member_lines.specs.declared.refusal.Refusal.{Refusal}
use Rattle.member_runs.specs.Turns.{IsFromBytes}

-- where it is an event, its message was read from bytes
abbrev pub FromBytes : Result HostLine Refusal → Type 0
FromBytes (Ok (Take event claim)) = IsFromBytes event
FromBytes _ = Unit {0}

abbrev FromOption : Option HostLine → Type 0
FromOption None = Unit {0}
FromOption (Some line) = FromBytes (Ok line)

when : (b : Bool) (x y : Result HostLine Refusal) → FromBytes x → FromBytes y
    → FromBytes (if b then x else y)
when true x y one two = one
when false x y one two = two

when_some : (b : Bool) (x y : Option HostLine) → FromOption x → FromOption y
    → FromOption (if b then x else y)
when_some true x y one two = one
when_some false x y one two = two

or_from : (o : Option HostLine) → FromOption o → FromBytes (or_syntax o)
or_from None from = tt
or_from (Some line) from = from

alone_from : (word : List ℕ) → FromOption (alone word)
alone_from word =
    when_some (bytes_eq word (codes "start")) _ _ tt
    (when_some (bytes_eq word (codes "ack")) _ _ tt
    (when_some (bytes_eq word (codes "view")) _ _ tt tt))

number_from : (word : List ℕ) (n : ℕ) → FromOption (number_asked word n)
number_from word n =
    when_some (bytes_eq word (codes "timeout")) _ _ tt
    (when_some (bytes_eq word (codes "prune")) _ _ tt
    (when_some (bytes_eq word (codes "hint")) _ _ tt
    (when_some (bytes_eq word (codes "cancel")) _ _ tt
    (when_some (bytes_eq word (codes "at")) _ _ tt
    (when_some (bytes_eq word (codes "final")) _ _ tt tt)))))

watched_from : (d : Option Digest32) (c : Option Commitment) → FromOption (watched d c)
watched_from (Some d) c = tt
watched_from None None = tt
watched_from None (Some c) = tt

asked_from : (d : Option Digest32) (c : Option Commitment) → FromOption (asked_block d c)
asked_from (Some d) c = tt
asked_from None None = tt
asked_from None (Some c) = tt

bytes_from : (word bytes : List ℕ) → FromBytes (with_bytes word bytes)
bytes_from word bytes =
    when (bytes_eq word (codes "disk")) _ _ tt
    (when (bytes_eq word (codes "propose")) _ _ (when (is_oversize bytes) _ _ tt tt)
    (when (bytes_eq word (codes "watch")) _ _
    (or_from (watched (digest_in bytes) (commitment_in bytes))
    (watched_from (digest_in bytes) (commitment_in bytes)))
    (when (bytes_eq word (codes "block")) _ _
    (or_from (asked_block (digest_in bytes) (commitment_in bytes))
    (asked_from (digest_in bytes) (commitment_in bytes)))
    (when (bytes_eq word (codes "names")) _ _ tt tt))))

either_from : (word : List ℕ) (o : Option HostLine) (bytes : Option (List ℕ)) → FromOption o
    → FromBytes (number_or_bytes word o bytes)
either_from word (Some line) bytes from = from
either_from word None None from = tt
either_from word None (Some bytes) from = bytes_from word bytes

then_from : (f : ℕ → Option HostLine) → ((n : ℕ) → FromOption (f n)) → (o : Option ℕ)
    → FromOption (option_and_then f o)
then_from f from None = tt
then_from f from (Some n) = from n

field_from : (word field : List ℕ) → FromBytes (with_field word field)
field_from word field =
    either_from word (option_and_then (number_asked word) (number field)) (bytes_in field)
    (then_from (number_asked word) (number_from word) (number field))

cert_from : (v : Vote) (signers : List ℕ) (claim : Claim) (bytes : List ℕ)
    → message_of bytes ≡ Message.Cert (record { vote = v; signers = signers })
    → FromBytes (floored (Message.Cert (record { vote = v; signers = signers })) claim)
cert_from (Finalize p) signers claim bytes is = (bytes, is, refl)
cert_from (Notarize p) signers claim bytes is = tt
cert_from (Nullify epoch view) signers claim bytes is = tt

floored_from : (m : Message) (claim : Claim) (bytes : List ℕ) → message_of bytes ≡ m
    → FromBytes (floored m claim)
floored_from (Message.Cert s) claim bytes is = cert_from s.vote s.signers claim bytes is
floored_from (Message.Vote j v) claim bytes is = tt
floored_from (Message.Shard c x) claim bytes is = tt
floored_from (Message.Ask j c) claim bytes is = tt
floored_from (Message.AskHeight j h) claim bytes is = tt
floored_from (Message.Block b) claim bytes is = tt
floored_from (Message.Junk raw) claim bytes is = tt

given_from : (bytes : Option (List ℕ)) (claim : Option Claim) → FromBytes (given_up bytes claim)
given_from None claim = tt
given_from (Some bytes) None = tt
given_from (Some bytes) (Some claim) = floored_from (message_of bytes) claim bytes refl

delivered_from : (bytes : Option (List ℕ)) (claim : Option Claim)
    → FromBytes (delivered bytes claim)
delivered_from None claim = tt
delivered_from (Some bytes) None = tt
delivered_from (Some bytes) (Some claim) = (bytes, refl)

behind_from : (word field : List ℕ) (claim : List (List ℕ))
    → FromBytes (alone_behind word field claim)
behind_from word field [] = field_from word field
behind_from word field (next ∷ more) = tt

words_from : (words : List (List ℕ)) → FromBytes (host_line_in words)
words_from [] = tt
words_from (word ∷ []) = or_from (alone word) (alone_from word)
words_from (word ∷ field ∷ claim) =
    when (bytes_eq word (codes "deliver")) _ _ (delivered_from (bytes_in field) (claim_in claim))
    (when (bytes_eq word (codes "floor")) _ _ (given_from (bytes_in field) (claim_in claim))
    (behind_from word field claim))

-- what a line brings was read from bytes
pub line_from : (text : List ℕ) → FromBytes (host_line text)
line_from text = words_from (fields text)
