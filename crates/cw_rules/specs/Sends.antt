-- What a step of a member sends.
use Rattle.std.specs.Prelude.{[], ℕ, ◌&&◌, ◌++◌, ◌==◌, ◌∷◌, List, None, Option, Some, false, filter, filter_map, flat_map, if◌then◌else◌, map, nat_lt, not, option_and_then, option_map, slice_get}
use Rattle.std.specs.List.{list_any}
use Rattle.std.specs.Option.{option_map_or}
use Rattle.cw_base.specs.Config.{same_counts}
use Rattle.cw_types.specs.Block.{Block}
use Rattle.cw_types.specs.Epochs.{members_in, place}
use Rattle.cw_types.specs.Same.{same_commitment}
use Rattle.cw_types.specs.Votes.{proposal_of}
use Rattle.cw_types.specs.declared.commitment.Commitment.{Commitment}
use Rattle.cw_types.specs.declared.event.Event.{Event}
use Rattle.cw_types.specs.declared.event.Out.{Out}
use Rattle.cw_types.specs.declared.event.To.{To}
use Rattle.cw_types.specs.declared.message.Message.{Message}
use Rattle.cw_types.specs.declared.note.Note.{Note}
use Rattle.cw_types.specs.declared.vote.Cert.{Cert}
use Rattle.cw_rules.specs.Accepted.{Came, Row, State, first_some, is_chunk_of, same_part}
use Rattle.cw_rules.specs.Held.{finalization_of, held, next, noted_block_of}
use Rattle.cw_rules.specs.Notes.{epoch_of, has_block}
use Rattle.cw_rules.specs.Rules.{Chunk, Rules, chunks, commit, config, genesis_commitment}
use Rattle.cw_rules.specs.declared.travel.Travel.{Travel}
use Rattle.cw_rules.specs.declared.travel.Travel.TheVariants.{Chunked, Uncut}

-- the message to every member
abbrev pub to_all : Message → Out
to_all m = record { to = To.All; message = m }

-- a chunk to the member of the list at its place, if there is one, the own one to all
abbrev pub chunk_out : ℕ → List ℕ → Commitment → Chunk → Option Out
chunk_out id list c x =
    option_map
    (λ j. record { to = if j == id then To.All else To.One j; message = Message.Shard c x })
    (slice_get list x.index)

-- how a block goes to the members of an epoch: each chunk to the one at its place, or the whole
-- block to all
abbrev pub block_sends : Travel → Rules → ℕ → ℕ → Block → List Out
block_sends Chunked r id epoch b =
    filter_map (chunk_out id (members_in r.epochs epoch) (commit r b)) (chunks r b)
block_sends Uncut r id epoch b = to_all (Message.Block b) ∷ []

-- what a note sends
abbrev pub note_sends : Rules → ℕ → List Note → Note → List Out
note_sends r id notes (Note.Verified epoch view c) =
    option_map_or (block_sends r.travel r id epoch) (first_some (noted_block_of c) notes) []
note_sends r id notes (Note.Vote v) = to_all (Message.Vote id v) ∷ []
note_sends r id notes (Note.Cert s) = to_all (Message.Cert s) ∷ []
note_sends r id notes _ = []

-- a commitment that a note leads to: the payload of a certificate, or the parent of a held block
-- above that height
abbrev pub leads : Rules → List Note → ℕ → Note → Option Commitment
leads r notes height (Note.Cert s) = option_map (λ p. p.payload) (proposal_of s.vote)
leads r notes height (Note.Block c b) =
    option_and_then (λ a. if nat_lt height a.height then Some a.context.parent else None)
    (held r notes c)
leads r notes height _ = None

-- each once, in order, but for those in seen
abbrev pub once : List Commitment → List Commitment → List Commitment
once seen [] = []
once seen (c ∷ cs) =
    if list_any (same_commitment c) seen then once seen cs else c ∷ once (c ∷ seen) cs

-- the commitments that are missing: led to, not genesis, without a Block note
abbrev pub missing : Rules → State → List Commitment
missing r s =
    filter (λ c. not (has_block s.notes c))
    (once (genesis_commitment r ∷ []) (filter_map (leads r s.notes (next s)) s.notes))

-- the chunk at the member's own place in that epoch, of the epoch's config, which this event
-- brought, where it was accepted
abbrev pub own_chunk : Rules → ℕ → ℕ → Came → Event → List Out
own_chunk r id epoch came (Event.Deliver (Message.Shard c x)) =
    if option_map_or (λ at. x.index == at) (place r.epochs epoch id) false
    && same_counts c.config (config r epoch) && is_chunk_of r c x
    && not (list_any (same_part (Row c x)) came.parts)
    then to_all (Message.Shard c x) ∷ [] else []
own_chunk r id epoch came _ = []

-- the certificate of a note, where it is a finalization whose held payload has that height
abbrev pub finalization_at : Rules → List Note → ℕ → Note → Option Cert
finalization_at r notes height (Note.Cert s) =
    option_and_then
    (λ p. option_and_then (λ b. if b.height == height then Some s else None)
    (held r notes p.payload))
    (finalization_of (Note.Cert s))
finalization_at r notes height _ = None

-- that certificate and its block
abbrev pub finalization_outs : Rules → List Note → ℕ → Cert → List Out
finalization_outs r notes to s =
    record { to = To.One to; message = Message.Cert s } ∷
    option_map_or (λ b. record { to = To.One to; message = Message.Block b } ∷ [])
    (option_and_then (λ p. held r notes p.payload) (proposal_of s.vote)) []

-- the answer to a question
abbrev pub answer : Rules → ℕ → List Note → Event → List Out
answer r id notes (Event.Deliver (Message.Ask i c)) =
    if nat_lt i r.epochs.total && not (same_commitment c (genesis_commitment r))
    then option_map_or (λ b. record { to = To.One i; message = Message.Block b } ∷ [])
    (held r notes c) []
    else []
answer r id notes (Event.Deliver (Message.AskHeight i h)) =
    if nat_lt i r.epochs.total
    then option_map_or (finalization_outs r notes i) (first_some (finalization_at r notes h) notes)
    []
    else []
answer r id notes (Event.Hint h) =
    option_map_or (λ _. []) (first_some (finalization_at r notes h) notes)
    (to_all (Message.AskHeight id h) ∷ [])
answer r id notes _ = []

-- all that a step sends: before is the state without its notes, after with them
abbrev pub sends : Rules → ℕ → State → State → Event → List Note → List Out
sends r id before after e notes =
    flat_map (note_sends r id after.notes) notes
    ++ own_chunk r id (epoch_of before.notes) before.came e
    ++ map (λ c. to_all (Message.Ask id c))
    (filter (λ c. not (list_any (same_commitment c) (missing r before))) (missing r after))
    ++ answer r id after.notes e
