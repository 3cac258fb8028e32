-- Which blocks are shown, held and reached, and which heights are handed out.
use Rattle.std.specs.Prelude.{ℕ, ◌&&◌, ◌+◌, ◌==◌, Bool, List, None, Option, Some, filter, filter_map, if◌then◌else◌, max, nat_le, nat_lt, option_and_then, suc, take, true, zero}
use Rattle.std.specs.List.{last_or}
use Rattle.std.specs.Option.{option_map_or, option_or}
use Rattle.cw_types.specs.Block.{Block}
use Rattle.cw_types.specs.Same.{same_commitment}
use Rattle.cw_types.specs.Votes.{finalized}
use Rattle.cw_types.specs.declared.commitment.Commitment.{Commitment}
use Rattle.cw_types.specs.declared.note.Note.{Note}
use Rattle.cw_types.specs.declared.vote.Proposal.{Proposal}
use Rattle.cw_rules.specs.Accepted.{Came, Part, Row, State, Whole, first_some}
use Rattle.cw_rules.specs.Notes.{greatest}
use Rattle.cw_rules.specs.Rules.{Chunk, Rules, block_of, commit, genesis, genesis_commitment}
use Rattle.cw_rules.specs.declared.travel.Travel.{Travel}
use Rattle.cw_rules.specs.declared.travel.Travel.TheVariants.{Chunked, Uncut}

-- the block, where it is committed to so
abbrev pub if_committed : Rules → Commitment → Block → Option Block
if_committed r c b = if same_commitment (commit r b) c then Some b else None

-- a block that came whole under the commitment
abbrev pub whole_of : Rules → Commitment → Part → Option Block
whole_of r c (Whole b) = if_committed r c b
whole_of r c (Row d x) = None

-- the chunk, where it is of that commitment
abbrev pub chunk_under : Commitment → Part → Option Chunk
chunk_under c (Row d x) = if same_commitment c d then Some x else None
chunk_under c (Whole b) = None

-- the chunks of a commitment that came, at most k of them
abbrev pub first_chunks : Came → Commitment → List Chunk
first_chunks came c = take c.config.minimum (filter_map (chunk_under c) came.parts)

-- the block under the commitment of whose codeword its first k chunks are rows
abbrev pub shown_by_rows : Rules → Came → Commitment → Option Block
shown_by_rows r came c =
    option_and_then (if_committed r c)
    (block_of r c.config (first_chunks came c))

-- the first block that came whole under the commitment
abbrev pub shown_whole : Rules → Came → Commitment → Option Block
shown_whole r came c = first_some (whole_of r c) came.parts

-- the block that came whole, else the one that chunks show. Where blocks aren't cut there are no
-- chunks, and genesis' commitment, which a block may then have, is never shown
abbrev pub shown_by : Travel → Rules → Came → Commitment → Option Block
shown_by Chunked r came c = option_or (shown_whole r came c) (shown_by_rows r came c)
shown_by Uncut r came c =
    if same_commitment c (genesis_commitment r) then None else shown_whole r came c

-- the block as which a commitment is shown
abbrev pub shown : Rules → Came → Commitment → Option Block
shown r came c = shown_by r.travel r came c

-- the block of a note, where it is under that commitment
abbrev pub noted_block_of : Commitment → Note → Option Block
noted_block_of c (Note.Block d b) = if same_commitment c d then Some b else None
noted_block_of c _ = None

-- the height of a Prune note
abbrev pub pruned_height : Note → Option ℕ
pruned_height (Note.Prune h) = Some h
pruned_height _ = None

-- the height of a Floor note
abbrev pub floor_height : Note → Option ℕ
floor_height (Note.Floor h) = Some h
floor_height _ = None

-- the height of an Ack note
abbrev pub acked_height : Note → Option ℕ
acked_height (Note.Ack h) = Some h
acked_height _ = None

-- the height below which blocks are hidden by a prune
abbrev pub greatest_prune : List Note → ℕ
greatest_prune notes = greatest (filter_map pruned_height notes)

-- the height below which heights are given up
abbrev pub greatest_floor : List Note → ℕ
greatest_floor notes = greatest (filter_map floor_height notes)

-- the block of the first Block note, unless it was pruned
abbrev pub kept_block : List Note → Commitment → Option Block
kept_block notes c =
    option_and_then
    (λ b. if nat_lt 0 b.height && nat_lt b.height (greatest_prune notes) then None else Some b)
    (first_some (noted_block_of c) notes)

-- that block; genesis is always held
abbrev pub held : Rules → List Note → Commitment → Option Block
held r notes c =
    if same_commitment c (genesis_commitment r) then Some (genesis r) else kept_block notes c

-- the held block under the parent commitment of b, where its height is one less
abbrev pub parent_of : Rules → List Note → Block → Option Block
parent_of r notes b =
    option_and_then (λ a. if a.height + 1 == b.height then Some a else None)
    (held r notes b.context.parent)

-- the commitment of the block of that height which b, under c, reaches by parents in at most so
-- many steps
abbrev pub reached : Rules → List Note → ℕ → ℕ → Commitment → Block → Option Commitment
reached r notes zero height c b = if b.height == height then Some c else None
reached r notes (suc steps) height c b =
    if b.height == height then Some c
    else option_and_then (reached r notes steps height b.context.parent) (parent_of r notes b)

-- the proposal of a noted finalization
abbrev pub finalization_of : Note → Option Proposal
finalization_of (Note.Cert s) = finalized s.vote
finalization_of _ = None

-- the commitment at a height: genesis, or what the first noted finalization that reaches the height
-- reaches there
abbrev pub at_height : Rules → List Note → ℕ → Option Commitment
at_height r notes height =
    if height == 0 then Some (genesis_commitment r)
    else first_some
    (λ p. option_and_then (λ b. reached r notes b.height height p.payload b)
    (held r notes p.payload))
    (filter_map finalization_of notes)

-- ---- heights

-- the height that was acknowledged last
abbrev pub last_ack : List Note → Option ℕ
last_ack notes = last_or None (filter_map acked_height notes)

-- where the deliveries of a start begin
abbrev pub resume : List Note → ℕ
resume notes = max (option_map_or (λ h. h + 1) (last_ack notes) 0) (greatest_floor notes)

-- the height to be handed out next, by the notes and the heights handed out
abbrev pub next_of : List Note → List ℕ → ℕ
next_of notes given =
    max (option_map_or (λ h. h + 1) (last_or None given) (resume notes)) (greatest_floor notes)

-- the same of a member
abbrev pub next : State → ℕ
next s = next_of s.notes s.given

-- the height is above the one that was acknowledged last, and not below the floor
abbrev pub is_pending : Option ℕ → ℕ → ℕ → Bool
is_pending acked floor height =
    option_map_or (λ a. nat_lt a height) acked true && nat_le floor height

-- the heights handed out and not yet acknowledged
abbrev pub pending : State → List ℕ
pending s = filter (is_pending (last_ack s.notes) (greatest_floor s.notes)) s.given
