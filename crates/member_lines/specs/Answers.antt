-- The lines of an answer, on whole values.
use Rattle.std.specs.Prelude.{[], List, None, Option, Some, codes, ℕ, ◌++◌, ◌∷◌}
use Rattle.std.specs.List.{flat_map}
use Rattle.std.specs.Fmt.{decimal}
use Rattle.hex.specs.Hex.{encode_lower}
use Rattle.cw_base.specs.declared.hash.Digest32.{Digest32}
use Rattle.cw_types.specs.Encoding.{commitment_bytes, message_bytes, vote_bytes}
use Rattle.cw_types.specs.declared.commitment.Commitment.{Commitment}
use Rattle.cw_types.specs.declared.event.Handed.{Handed}
use Rattle.cw_types.specs.declared.event.Out.{Out}
use Rattle.cw_types.specs.declared.event.TicketOut.{TicketOut}
use Rattle.cw_types.specs.declared.message.Message.{Message}
use Rattle.cw_types.specs.declared.message.Message.TheVariants as message
use Rattle.cw_types.specs.declared.vote.Vote.{Vote}
use Rattle.hail_report.specs.Text.{digest_text, line, to_text}
use Rattle.member_lines.specs.declared.refusal.Refusal.{Refusal}
use Rattle.member_lines.specs.declared.refusal.Refusal.TheVariants.{BadCommittee, Foreign, NoBlock, NoFinalization, OversizeBlock, Syntax, TooEarly, TooLate, TooLong, UnknownMember}

-- two lower-case hexadecimal digits a byte, or `-` for no bytes
abbrev pub hex_text : List ℕ → List ℕ
hex_text [] = codes "-"
hex_text (byte ∷ bytes) = encode_lower (byte ∷ bytes)

-- a commitment's 100 bytes
abbrev pub commitment_text : Commitment → List ℕ
commitment_text c = encode_lower (commitment_bytes c)

-- ---- what its host has to write

-- `write P HEX`
unfoldable pub write_line : ℕ → List ℕ → List ℕ
write_line place bytes = line (codes "write " ++ decimal place ++ codes " " ++ hex_text bytes)

-- `sync`
unfoldable pub sync_line : List ℕ
sync_line = line (codes "sync")

-- ---- and then to send

-- each behind a space
abbrev pub members_text : List ℕ → List ℕ
members_text members = flat_map (λ member. codes " " ++ decimal member) members

-- ` VOTE M M ..`: a vote, and who signed it
abbrev pub signed_text : Vote → List ℕ → List ℕ
signed_text vote signers = codes " " ++ encode_lower (vote_bytes vote) ++ members_text signers

-- the vote that a message is of, and its signers, if it is of one
unfoldable pub named_text : Message → List ℕ
named_text (message.Vote signer vote) = signed_text vote (signer ∷ [])
named_text (message.Cert cert) = signed_text cert.vote cert.signers
named_text _ = []

-- a message, with that
unfoldable pub message_text : Message → List ℕ
message_text m = hex_text (message_bytes m) ++ named_text m

-- `send TO HEX [VOTE M M ..]`
unfoldable pub send_line : Out → List ℕ
send_line out = line (codes "send " ++ to_text out.to ++ codes " " ++ message_text out.message)

-- ---- what is handed out, and tickets

-- `hand H DIGEST COMMITMENT PAYLOAD`
unfoldable pub handed_out_line : Handed → List ℕ → List ℕ
handed_out_line h payload =
    line
    (codes "hand " ++ decimal h.height ++ codes " " ++ digest_text h.digest ++ codes " "
    ++ commitment_text h.commitment ++ codes " " ++ hex_text payload)

-- `told T`, or `told T COMMITMENT`
unfoldable pub ticket_line : TicketOut → List ℕ
ticket_line t = line (codes "told " ++ decimal t.number ++ held_text t.commitment)
  where
    held_text : Option Commitment → List ℕ
    held_text None = []
    held_text (Some c) = codes " " ++ commitment_text c

-- ---- where a member stands

-- `view E V M`, M the leader
unfoldable pub place_line : ℕ → ℕ → ℕ → List ℕ
place_line epoch view leader =
    line
    (codes "view " ++ decimal epoch ++ codes " " ++ decimal view ++ codes " " ++ decimal leader)

-- ---- answers to questions

-- `block H DIGEST COMMITMENT PAYLOAD`, with `-` where no commitment was asked for
unfoldable pub block_line : ℕ → Digest32 → Option Commitment → List ℕ → List ℕ
block_line height digest commitment payload =
    line
    (codes "block " ++ decimal height ++ codes " " ++ digest_text digest ++ codes " "
    ++ under_text commitment ++ codes " " ++ hex_text payload)
  where
    under_text : Option Commitment → List ℕ
    under_text None = codes "-"
    under_text (Some c) = commitment_text c

-- `final H HEX VOTE M M ..`
unfoldable pub final_line : ℕ → Message → List ℕ
final_line height m =
    line (codes "final " ++ decimal height ++ codes " " ++ message_text m)

-- `names [VOTE M M ..]`
unfoldable pub names_line : Message → List ℕ
names_line m = line (codes "names" ++ named_text m)

-- ---- the end of an answer

-- `ok`
unfoldable pub ok_line : List ℕ
ok_line = line (codes "ok")

-- its name, and of a file that isn't a member's the place of its first frame that is cut or isn't
-- notes
abbrev pub refusal_text : Refusal → List ℕ
refusal_text Syntax = codes "Syntax"
refusal_text TooLong = codes "TooLong"
refusal_text TooEarly = codes "TooEarly"
refusal_text TooLate = codes "TooLate"
refusal_text BadCommittee = codes "BadCommittee"
refusal_text UnknownMember = codes "UnknownMember"
refusal_text OversizeBlock = codes "OversizeBlock"
refusal_text NoFinalization = codes "NoFinalization"
refusal_text NoBlock = codes "NoBlock"
refusal_text (Foreign place) = codes "Foreign " ++ decimal place

-- `no REASON`
unfoldable pub no_line : Refusal → List ℕ
no_line refusal = line (codes "no " ++ refusal_text refusal)
