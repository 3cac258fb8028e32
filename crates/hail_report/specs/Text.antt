-- The text of a report, on whole values.
use Rattle.std.specs.Prelude.{ℕ, ◌+◌, List, [], ◌∷◌, ◌++◌, length, codes, Bool, true, false, Option, Some, None}
use Rattle.std.specs.List.{flat_map, sum_by}
use Rattle.std.specs.Fmt.{decimal}
use Rattle.hex.specs.Hex.{encode_lower}
use Rattle.cw_base.specs.declared.hash.Digest32.{Digest32}
use Rattle.cw_types.specs.Block.{Block}
use Rattle.cw_types.specs.Encoding.{block_bytes, message_bytes}
use Rattle.cw_types.specs.declared.event.Handed.{Handed}
use Rattle.cw_types.specs.declared.event.To.{To}
use Rattle.cw_types.specs.declared.event.To.TheVariants as to
use Rattle.cw_types.specs.declared.message.Message.{Message}
use Rattle.cw_types.specs.declared.message.Message.TheVariants as message
use Rattle.cw_types.specs.declared.vote.Vote.{Vote}
use Rattle.cw_types.specs.declared.vote.Vote.TheVariants.{Notarize, Nullify, Finalize}
use Rattle.hail_script.specs.declared.error.RunError.{RunError}
use Rattle.hail_script.specs.declared.error.RunError.TheVariants.{Syntax, BadCommittee, UnknownMember, TooManyFaulty, OversizeBlock, HashClash, NoMemory}
use Rattle.hail_script.specs.Views.{view_text}
use Rattle.cw_rules.specs.Report.{Acked, Entry, Report}
use Rattle.cw_rules.specs.World.{Sent}

-- a text, and the end of its line
abbrev pub line : List ℕ → List ℕ
line text = text ++ 10 ∷ []

-- 64 lower-case hexadecimal digits
abbrev pub digest_text : Digest32 → List ℕ
digest_text d = encode_lower d.0

-- `all`, or a member
unfoldable pub to_text : To → List ℕ
to_text to.All = codes "all"
to_text (to.One m) = decimal m

-- `notarize V` and so on
unfoldable pub vote_text : Vote → List ℕ
vote_text (Notarize p) = codes "notarize " ++ view_text p.epoch p.view
vote_text (Nullify epoch view) = codes "nullify " ++ view_text epoch view
vote_text (Finalize p) = codes "finalize " ++ view_text p.epoch p.view

-- `shard J`, J the chunk's index; `vote S ..`, S the signer; `cert .. C`, C the number of signers;
-- `ask`; `askheight H`; `block H`; `junk L`, L the number of bytes
unfoldable pub what_text : Message → List ℕ
what_text (message.Shard c x) = codes "shard " ++ decimal x.index
what_text (message.Vote signer v) = codes "vote " ++ decimal signer ++ codes " " ++ vote_text v
what_text (message.Cert s) =
    codes "cert " ++ vote_text s.vote ++ codes " " ++ decimal (length s.signers)
what_text (message.Ask from c) = codes "ask"
what_text (message.AskHeight from h) = codes "askheight " ++ decimal h
what_text (message.Block b) = codes "block " ++ decimal b.height
what_text (message.Junk bytes) = codes "junk " ++ decimal (length bytes)

-- `TO WHAT DIGEST`, DIGEST the hash of the message's bytes
unfoldable pub goes_text : (List ℕ → Digest32) → Sent → List ℕ
goes_text hash s =
    to_text s.to ++ codes " " ++ what_text s.message ++ codes " "
    ++ digest_text (hash (message_bytes s.message))

-- `sent I FROM TO WHAT DIGEST`
unfoldable pub sent_line : (List ℕ → Digest32) → Sent → List ℕ
sent_line hash s =
    line
    (codes "sent " ++ decimal s.number ++ codes " " ++ decimal s.from ++ codes " "
    ++ goes_text hash s)

-- `hand M H DIGEST`, DIGEST the block's
unfoldable pub hand_line : ℕ → Handed → List ℕ
hand_line m h =
    line
    (codes "hand " ++ decimal m ++ codes " " ++ decimal h.height ++ codes " "
    ++ digest_text h.digest)

-- the blocks handed out at a member
abbrev pub hands_text : Option ℕ → List Handed → List ℕ
hands_text None handed = []
hands_text (Some m) handed = flat_map (hand_line m) handed

-- `found F`
unfoldable pub found_text : Option ℕ → List ℕ
found_text None = []
found_text (Some notes) = line (codes "found " ++ decimal notes)

-- the messages that were sent, and then the blocks handed out
abbrev pub gave_text : (List ℕ → Digest32) → Entry → List ℕ
gave_text hash e = flat_map (sent_line hash) e.sent ++ hands_text e.member e.handed

-- `open M`
unfoldable pub open_line : Option ℕ → List ℕ
open_line None = []
open_line (Some m) = line (codes "open " ++ decimal m)

-- `step L`
unfoldable pub step_line : ℕ → List ℕ
step_line at = line (codes "step " ++ decimal at)

-- a member's start
abbrev pub opening_text : (List ℕ → Digest32) → Entry → List ℕ
opening_text hash e = open_line e.member ++ gave_text hash e

-- a line of the script
abbrev pub step_text : (List ℕ → Digest32) → Entry → List ℕ
step_text hash e = step_line e.line ++ found_text e.found ++ gave_text hash e

-- a member is live, or stopped
abbrev pub state_word : Bool → List ℕ
state_word true = codes "live"
state_word false = codes "stopped"

-- the last acknowledged height, or `none`
abbrev pub height_text : Option ℕ → List ℕ
height_text None = codes "none"
height_text (Some h) = decimal h

-- `member M live acked X notes K`
unfoldable pub member_line : Acked → List ℕ
member_line a =
    line
    (codes "member " ++ decimal a.member ++ codes " " ++ state_word a.live ++ codes " acked "
    ++ height_text a.height ++ codes " notes " ++ decimal a.notes)

-- `chain H DIGEST`
unfoldable pub chain_line : (List ℕ → Digest32) → ℕ → Block → List ℕ
chain_line hash h b =
    line (codes "chain " ++ decimal h ++ codes " " ++ digest_text (hash (block_bytes b)))

-- the links from a height on
abbrev pub chain_text : (List ℕ → Digest32) → ℕ → List Block → List ℕ
chain_text hash h [] = []
chain_text hash h (b ∷ bs) = chain_line hash h b ++ chain_text hash (h + 1) bs

-- `done E`, E the number of event lines
unfoldable pub done_line : ℕ → List ℕ
done_line events = line (codes "done " ++ decimal events)

-- the whole text of a report
abbrev pub report_text : (List ℕ → Digest32) → Report → List ℕ
report_text hash r =
    flat_map (opening_text hash) r.opening ++ flat_map (step_text hash) r.steps
    ++ flat_map member_line r.acked ++ chain_text hash 0 r.chain ++ done_line (length r.steps)

-- the line of a refusal, or of a clash
unfoldable pub error_line : RunError → List ℕ
error_line (Syntax l) = line (codes "error 1 Syntax " ++ decimal l)
error_line BadCommittee = line (codes "error 2 BadCommittee")
error_line (UnknownMember l) = line (codes "error 3 UnknownMember " ++ decimal l)
error_line TooManyFaulty = line (codes "error 4 TooManyFaulty")
error_line (OversizeBlock l) = line (codes "error 5 OversizeBlock " ++ decimal l)
error_line (HashClash earlier later) =
    line (codes "error 6 HashClash " ++ encode_lower earlier ++ codes " " ++ encode_lower later)
error_line NoMemory = []

-- the answer to an input above 16,777,216 bytes
abbrev pub too_long_line : List ℕ
too_long_line = line (codes "error TooLong")

-- ---- the summary of a storm

-- all messages that were sent, and all blocks that were handed out
abbrev pub sent_count : List Entry → ℕ
sent_count entries = sum_by (λ e. length e.sent) entries

abbrev pub handed_count : List Entry → ℕ
handed_count entries = sum_by (λ e. length e.handed) entries

-- `top H` and `chain DIGEST`
abbrev pub top_lines : (List ℕ → Digest32) → Block → List ℕ
top_lines hash b =
    line (codes "top " ++ decimal b.height)
    ++ line (codes "chain " ++ digest_text (hash (block_bytes b)))

-- of the last link
abbrev pub top_text : (List ℕ → Digest32) → List Block → List ℕ
top_text hash [] = []
top_text hash (b ∷ []) = top_lines hash b
top_text hash (b ∷ c ∷ bs) = top_text hash (c ∷ bs)

-- `storm N`
abbrev pub number_line : ℕ → List ℕ
number_line number = line (codes "storm " ++ decimal number)

-- `events E`
abbrev pub events_line : ℕ → List ℕ
events_line events = line (codes "events " ++ decimal events)

-- `messages M`
abbrev pub messages_line : ℕ → List ℕ
messages_line messages = line (codes "messages " ++ decimal messages)

-- `handed H`
abbrev pub handed_line : ℕ → List ℕ
handed_line handed = line (codes "handed " ++ decimal handed)

-- the summary of the run of a storm's script
abbrev pub summary_text : (List ℕ → Digest32) → ℕ → Report → List ℕ
summary_text hash number r =
    number_line number ++ events_line (length r.steps)
    ++ messages_line (sent_count (r.opening ++ r.steps))
    ++ handed_line (handed_count (r.opening ++ r.steps)) ++ top_text hash r.chain
