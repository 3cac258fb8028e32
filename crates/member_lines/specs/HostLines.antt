-- The lines that a host gives a member behind the header.
use Rattle.std.specs.Prelude.{[], Err, List, None, Ok, Option, Result, Some, bytes_eq, codes, if◌then◌else◌, length, nat_lt, option_and_then, option_map, ℕ, ◌==◌, ◌∷◌}
use Rattle.std.specs.List.{list_all}
use Rattle.cw_types.specs.Reading.{commitment_at, message_of, to_the_end, vote_at}
use Rattle.cw_types.specs.declared.commitment.Commitment.{Commitment}
use Rattle.cw_base.specs.declared.hash.Digest32.{Digest32}
use Rattle.cw_types.specs.declared.event.Event.{Event}
use Rattle.cw_types.specs.declared.event.Event.TheVariants as event
use Rattle.cw_types.specs.declared.message.Message.{Message}
use Rattle.cw_types.specs.declared.message.Message.TheVariants as message
use Rattle.cw_types.specs.declared.vote.Cert.{Cert}
use Rattle.cw_types.specs.declared.vote.Vote.{Vote}
use Rattle.cw_types.specs.declared.vote.Vote.TheVariants.{Finalize}
use Rattle.hail_script.specs.Pieces.{bytes_in, fields, number, numbers}
use Rattle.hail_script.specs.Grammar.{is_oversize}
use Rattle.member_lines.specs.Claims.{no_claim}
use Rattle.member_lines.specs.declared.claim.Claim.{Claim}
use Rattle.member_lines.specs.declared.line.HostLine.{HostLine}
use Rattle.member_lines.specs.declared.line.HostLine.TheVariants.{Ask, Disk, Start, Take}
use Rattle.member_lines.specs.declared.line.Question.TheVariants as question
use Rattle.member_lines.specs.declared.refusal.Refusal.{Refusal}
use Rattle.member_lines.specs.declared.refusal.Refusal.TheVariants.{NoFinalization, OversizeBlock, Syntax}

-- a line, where there is one; else it is outside the grammar
abbrev pub or_syntax : Option HostLine → Result HostLine Refusal
or_syntax None = Err Syntax
or_syntax (Some line) = Ok line

-- an event for which nothing is vouched
abbrev pub taking : Event → HostLine
taking e = Take e no_claim

-- ---- a word alone

-- `start`, `ack` or `view`
abbrev pub alone : List ℕ → Option HostLine
alone word =
    if bytes_eq word (codes "start") then Some Start
    else if bytes_eq word (codes "ack") then Some (taking event.Ack)
    else if bytes_eq word (codes "view") then Some (Ask question.View)
    else None

-- ---- a word and a number

-- `timeout V`, `prune H`, `hint H`, `cancel T`, `at H` or `final H`
abbrev pub number_asked : List ℕ → ℕ → Option HostLine
number_asked word n =
    if bytes_eq word (codes "timeout") then Some (taking (event.Timeout n))
    else if bytes_eq word (codes "prune") then Some (taking (event.Prune n))
    else if bytes_eq word (codes "hint") then Some (taking (event.Hint n))
    else if bytes_eq word (codes "cancel") then Some (taking (event.Cancel n))
    else if bytes_eq word (codes "at") then Some (Ask (question.At n))
    else if bytes_eq word (codes "final") then Some (Ask (question.Final n))
    else None

-- ---- a word and bytes

-- a payload of at most 1,048,576 bytes
abbrev pub payload_asked : List ℕ → Result HostLine Refusal
payload_asked payload =
    if is_oversize payload then Err OversizeBlock else Ok (taking (event.Propose payload))

-- thirty-two bytes
abbrev pub digest_in : List ℕ → Option Digest32
digest_in bytes = if length bytes == 32 then Some (record { 0 = bytes }) else None

-- the hundred bytes of a commitment
abbrev pub commitment_in : List ℕ → Option Commitment
commitment_in bytes = to_the_end (commitment_at bytes)

-- a digest, else a commitment
abbrev pub watched : Option Digest32 → Option Commitment → Option HostLine
watched (Some digest) commitment = Some (taking (event.WatchDigest digest))
watched None commitment = option_map (λ c. taking (event.WatchCommitment c)) commitment

-- the same
abbrev pub asked_block : Option Digest32 → Option Commitment → Option HostLine
asked_block (Some digest) commitment = Some (Ask (question.OfDigest digest))
asked_block None commitment = option_map (λ c. Ask (question.Under c)) commitment

-- `disk HEX`, `propose HEX`, `watch HEX`, `block HEX` or `names HEX`
abbrev pub with_bytes : List ℕ → List ℕ → Result HostLine Refusal
with_bytes word bytes =
    if bytes_eq word (codes "disk") then Ok (Disk bytes)
    else if bytes_eq word (codes "propose") then payload_asked bytes
    else if bytes_eq word (codes "watch")
    then or_syntax (watched (digest_in bytes) (commitment_in bytes))
    else if bytes_eq word (codes "block")
    then or_syntax (asked_block (digest_in bytes) (commitment_in bytes))
    else if bytes_eq word (codes "names") then Ok (Ask (question.Names (message_of bytes)))
    else Err Syntax

-- a line of a number, else one of bytes
abbrev pub number_or_bytes : List ℕ → Option HostLine → Option (List ℕ)
    → Result HostLine Refusal
number_or_bytes word (Some line) bytes = Ok line
number_or_bytes word None None = Err Syntax
number_or_bytes word None (Some bytes) = with_bytes word bytes

-- a word and a field
abbrev pub with_field : List ℕ → List ℕ → Result HostLine Refusal
with_field word field =
    number_or_bytes word (option_and_then (number_asked word) (number field)) (bytes_in field)

-- ---- a message, and what its host vouches for

-- the numbers of members
abbrev pub small_numbers : Option (List ℕ) → Option (List ℕ)
small_numbers None = None
small_numbers (Some members) =
    if list_all (λ member. nat_lt member 65536) members then Some members else None

-- a vote, and who signed it. Bytes that are no vote claim nothing of anybody
abbrev pub claim_of : Option (List ℕ) → Option (List ℕ) → Option Claim
claim_of None signers = None
claim_of (Some vote) None = None
claim_of (Some vote) (Some signers) =
    Some (record { vote = to_the_end (vote_at vote); signers = signers })

-- `VOTE M M ..`, or nothing
abbrev pub claim_in : List (List ℕ) → Option Claim
claim_in [] = Some no_claim
claim_in (vote ∷ members) = claim_of (bytes_in vote) (small_numbers (numbers members))

-- a certificate of a vote to finalize
abbrev pub floored : Message → Claim → Result HostLine Refusal
floored (message.Cert cert) claim = floored_by cert cert.vote claim
  where
    floored_by : Cert → Vote → Claim → Result HostLine Refusal
    floored_by cert (Finalize p) claim = Ok (Take (event.Floor cert) claim)
    floored_by cert _ claim = Err NoFinalization
floored _ claim = Err NoFinalization

-- `deliver`
abbrev pub delivered : Option (List ℕ) → Option Claim → Result HostLine Refusal
delivered None claim = Err Syntax
delivered (Some bytes) None = Err Syntax
delivered (Some bytes) (Some claim) = Ok (Take (event.Deliver (message_of bytes)) claim)

-- `floor`
abbrev pub given_up : Option (List ℕ) → Option Claim → Result HostLine Refusal
given_up None claim = Err Syntax
given_up (Some bytes) None = Err Syntax
given_up (Some bytes) (Some claim) = floored (message_of bytes) claim

-- ---- the lines

-- a word and one field
abbrev pub alone_behind : List ℕ → List ℕ → List (List ℕ) → Result HostLine Refusal
alone_behind word field [] = with_field word field
alone_behind word field (next ∷ more) = Err Syntax

-- `deliver HEX [VOTE M M ..]`, `floor HEX [VOTE M M ..]`, or a line of at most one field
abbrev pub host_line_in : List (List ℕ) → Result HostLine Refusal
host_line_in [] = Err Syntax
host_line_in (word ∷ []) = or_syntax (alone word)
host_line_in (word ∷ field ∷ claim) =
    if bytes_eq word (codes "deliver") then delivered (bytes_in field) (claim_in claim)
    else if bytes_eq word (codes "floor") then given_up (bytes_in field) (claim_in claim)
    else alone_behind word field claim

-- what a host asks for by a line, or why it is refused
abbrev pub host_line : List ℕ → Result HostLine Refusal
host_line line = host_line_in (fields line)
