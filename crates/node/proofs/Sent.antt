-- A vote that a member sends is noted, and stays so over its steps, crashes and starts.
use Rattle.std.proofs.Common.{◌≡◌, ◌==◌, ℕ, Bool, true, false, ◌&&◌, cond, List, [], ◌∷◌, ◌++◌, Option, Some, None, filter, filter_map, flat_map, map, refl, sym, ◌∙◌, ap, inl, inr, ◌⊎◌, nat_lt, not, slice_get}
use Rattle.std.specs.List.{cons_option, list_any}
use Rattle.std.specs.Option.{option_map, option_map_or}
use Rattle.cw_base.specs.Config.{same_counts}
use Rattle.cw_types.specs.Block.{Block}
use Rattle.cw_types.specs.Epochs.{members_in, place}
use Rattle.cw_types.specs.Same.{same_commitment}
use Rattle.cw_types.specs.declared.commitment.Commitment.{Commitment}
use Rattle.cw_types.specs.declared.event.Event.{Event}
use Rattle.cw_types.specs.declared.event.Out.{Out}
use Rattle.cw_types.specs.declared.event.To.{To}
use Rattle.cw_types.specs.declared.message.Message.{Message}
use Rattle.cw_types.specs.declared.note.Note.{Note}
use Rattle.cw_types.specs.declared.vote.Cert.{Cert}
use Rattle.cw_types.specs.declared.vote.Vote.{Vote}
use Rattle.cw_types.proofs.Same.{same_vote_self}
use Rattle.cw_rules.specs.Accepted.{Came, Row, State, first_some, is_chunk_of, same_part}
use Rattle.cw_rules.specs.Held.{held, noted_block_of}
use Rattle.cw_rules.specs.Notes.{epoch_of, has_vote, is_vote}
use Rattle.cw_rules.specs.Reached.{In}
use Rattle.cw_rules.specs.Rules.{Chunk, Rules, chunks, commit, config, genesis_commitment}
use Rattle.cw_rules.specs.declared.travel.Travel.{Travel}
use Rattle.cw_rules.specs.declared.travel.Travel.TheVariants.{Chunked, Uncut}
use Rattle.cw_rules.specs.Sends.{answer, block_sends, chunk_out, finalization_at, finalization_outs, missing, note_sends, own_chunk, to_all}
use Rattle.cw_rules.specs.Step.{Member, member_notes, start, state_of, step, step_notes, taken, with_notes}
use Rattle.cw_rules.proofs.Lists.{in_cases}
use Rattle.cw_rules.proofs.NoteLemmas.{any_back, any_front}
use Rattle.node.proofs.Votes.{frame_added}
use Rattle.node.specs.Lives.{Life, SendsVote, Turn, after_lives, after_turns, since_start}

-- ---- what sends no vote

-- the message is a vote
abbrev IsVote : Out → Type 0
IsVote o = (i : ℕ) × ((v : Vote) × (o.message ≡ Message.Vote i v))

no_chunks : (id : ℕ) (list : List ℕ) (c : Commitment) (xs : List Chunk) (o : Out) → IsVote o
    → In o (filter_map (chunk_out id list c) xs) → ⊥
no_chunks id list c [] o vote i = i
no_chunks id list c (x ∷ xs) o vote i =
    go (slice_get list x.index) i (no_chunks id list c xs o vote)
  where
    sent : ℕ → Out
    sent j =
        record { to = cond (j == id) To.All (To.One j); message = Message.Shard c x }

    go : (at : Option ℕ)
        → In o (cons_option (option_map sent at) (filter_map (chunk_out id list c) xs))
        → (In o (filter_map (chunk_out id list c) xs) → ⊥) → ⊥
    go None i rest = rest i
    go (Some j) (inl e) rest =
        let (k, (v, is)) = vote in
        let never : Message.Vote k v ≡ Message.Shard c x = sym is ∙ ap (λ (q : Out). q.message) e in cc
    go (Some j) (inr i) rest = rest i

no_own : (r : Rules) (id epoch : ℕ) (came : Came) (e : Event) (o : Out) → IsVote o
    → In o (own_chunk r id epoch came e) → ⊥
no_own r id epoch came (Event.Deliver (Message.Shard c x)) o vote i =
    go
    (option_map_or (λ at. x.index == at) (place r.epochs epoch id) false
    && same_counts c.config (config r epoch) && is_chunk_of r c x
    && not (list_any (same_part (Row c x)) came.parts))
    i
  where
    go : (b : Bool) → In o (cond b (to_all (Message.Shard c x) ∷ []) []) → ⊥
    go true (inl e) =
        let (k, (v, is)) = vote in
        let never : Message.Vote k v ≡ Message.Shard c x = sym is ∙ ap (λ (q : Out). q.message) e in cc
    go true (inr none) = none
    go false none = none
no_own r id epoch came (Event.Deliver _) o vote i = i
no_own r id epoch came _ o vote i = i

no_asks : (id : ℕ) (cs : List Commitment) (o : Out) → IsVote o
    → In o (map (λ c. to_all (Message.Ask id c)) cs) → ⊥
no_asks id [] o vote i = i
no_asks id (c ∷ cs) o vote (inl e) =
    let (k, (v, is)) = vote in
    let never : Message.Vote k v ≡ Message.Ask id c = sym is ∙ ap (λ (q : Out). q.message) e in cc
no_asks id (c ∷ cs) o vote (inr i) = no_asks id cs o vote i

no_block : (j : ℕ) (found : Option Block) (o : Out) → IsVote o
    → In o (option_map_or (λ b. record { to = To.One j; message = Message.Block b } ∷ []) found [])
    → ⊥
no_block j None o vote i = i
no_block j (Some b) o vote (inl e) =
    let (k, (v, is)) = vote in
    let never : Message.Vote k v ≡ Message.Block b = sym is ∙ ap (λ (q : Out). q.message) e in cc
no_block j (Some b) o vote (inr none) = none

no_finals : (r : Rules) (notes : List Note) (j : ℕ) (found : Option Cert) (o : Out) → IsVote o
    → In o (option_map_or (finalization_outs r notes j) found []) → ⊥
no_finals r notes j None o vote i = i
no_finals r notes j (Some s) o vote (inl e) =
    let (k, (v, is)) = vote in
    let never : Message.Vote k v ≡ Message.Cert s = sym is ∙ ap (λ (q : Out). q.message) e in cc
no_finals r notes j (Some s) o vote (inr i) = no_block j _ o vote i

no_answer : (r : Rules) (id : ℕ) (notes : List Note) (e : Event) (o : Out) → IsVote o
    → In o (answer r id notes e) → ⊥
no_answer r id notes (Event.Deliver (Message.Ask j c)) o vote i =
    go (nat_lt j r.epochs.total && not (same_commitment c (genesis_commitment r))) i
  where
    go : (b : Bool)
        → In o (cond b
        (option_map_or (λ b. record { to = To.One j; message = Message.Block b } ∷ [])
        (held r notes c) [])
        [])
        → ⊥
    go true i = no_block j (held r notes c) o vote i
    go false none = none
no_answer r id notes (Event.Deliver (Message.AskHeight j h)) o vote i =
    go (nat_lt j r.epochs.total) i
  where
    go : (b : Bool)
        → In o (cond b
        (option_map_or (finalization_outs r notes j)
        (first_some (finalization_at r notes h) notes) [])
        [])
        → ⊥
    go true i = no_finals r notes j (first_some (finalization_at r notes h) notes) o vote i
    go false none = none
no_answer r id notes (Event.Deliver _) o vote i = i
no_answer r id notes (Event.Hint h) o vote i =
    go (first_some (finalization_at r notes h) notes) i
  where
    go : (f : Option Cert)
        → In o (option_map_or (λ _. []) f (to_all (Message.AskHeight id h) ∷ [])) → ⊥
    go (Some s) none = none
    go None (inl e) =
        let (k, (v, is)) = vote in
        let never : Message.Vote k v ≡ Message.AskHeight id h =
        sym is ∙ ap (λ (q : Out). q.message) e in
        cc
    go None (inr none) = none
no_answer r id notes _ o vote i = i

-- ---- what notes send

abbrev out_of : ℕ → Vote → Out
out_of id v = to_all (Message.Vote id v)

is_sent : (id : ℕ) (v : Vote) → IsVote (out_of id v)
is_sent id v = (id, (v, refl))

-- a note that sends the vote is that vote
note_voted : (r : Rules) (id : ℕ) (all : List Note) (note : Note) (v : Vote)
    → In (out_of id v) (note_sends r id all note) → is_vote v note ≡ true
note_voted r id all (Note.Vote w) v (inl e) =
    let messages : Message.Vote id v ≡ Message.Vote id w = ap (λ (q : Out). q.message) e in
    let same : w ≡ v = cc in
    ap (λ (x : Vote). is_vote v (Note.Vote x)) same ∙ same_vote_self v
note_voted r id all (Note.Vote w) v (inr none) = absurd none
note_voted r id all (Note.Cert s) v (inl e) =
    let never : Message.Vote id v ≡ Message.Cert s = ap (λ (q : Out). q.message) e in cc
note_voted r id all (Note.Cert s) v (inr none) = absurd none
note_voted r id all (Note.Verified epoch view c) v i =
    absurd (go r.travel (first_some (noted_block_of c) all) i)
  where
    go : (t : Travel) (found : Option Block)
        → In (out_of id v) (option_map_or (block_sends t r id epoch) found []) → ⊥
    go t None none = none
    go Chunked (Some b) i =
        no_chunks id (members_in r.epochs epoch) (commit r b) (chunks r b) (out_of id v)
        (is_sent id v) i
    go Uncut (Some b) (inl e) =
        let never : Message.Vote id v ≡ Message.Block b = ap (λ (q : Out). q.message) e in cc
    go Uncut (Some b) (inr none) = none
note_voted r id all _ v none = absurd none

notes_voted : (r : Rules) (id : ℕ) (all notes : List Note) (v : Vote)
    → In (out_of id v) (flat_map (note_sends r id all) notes) → has_vote notes v ≡ true
notes_voted r id all [] v i = absurd i
notes_voted r id all (note ∷ notes) v i =
    go (in_cases (out_of id v) (note_sends r id all note) (flat_map (note_sends r id all) notes) i)
    (notes_voted r id all notes v)
  where
    go : In (out_of id v) (note_sends r id all note)
        ⊎ In (out_of id v) (flat_map (note_sends r id all) notes)
        → (In (out_of id v) (flat_map (note_sends r id all) notes) → has_vote notes v ≡ true)
        → has_vote (note ∷ notes) v ≡ true
    go (inl here) rest = rw (note_voted r id all note v here) refl
    go (inr there) rest = any_back (is_vote v) (note ∷ []) notes (rest there)

-- ---- a step, and what comes after it

-- a vote that a step sends is noted by it
step_voted : (r : Rules) (id : ℕ) (m : Member) (turn : Turn) (v : Vote) → SendsVote r id m turn v
    → has_vote (member_notes (step r id turn.signed m turn.event).member) v ≡ true
step_voted r id m turn v sends =
    ap (λ (l : List Note). has_vote l v) (frame_added m.frames notes)
    ∙ any_back (is_vote v) (member_notes m) notes
    (last (in_cases o (first ++ own ++ asks) answers sends))
  where
    o : Out
    o = out_of id v

    during : State
    during = taken r turn.signed (state_of m) turn.event

    notes : List Note
    notes = step_notes r id during turn.event

    after : State
    after = with_notes during notes

    first : List Out
    first = flat_map (note_sends r id after.notes) notes

    own : List Out
    own = own_chunk r id (epoch_of (state_of m).notes) m.came turn.event

    asked : List Commitment
    asked =
        filter (λ c. not (list_any (same_commitment c) (missing r (state_of m)))) (missing r after)

    asks : List Out
    asks = map (λ c. to_all (Message.Ask id c)) asked

    answers : List Out
    answers = answer r id after.notes turn.event

    sent_first : In o first ⊎ In o own → has_vote notes v ≡ true
    sent_first (inl i) = notes_voted r id after.notes notes v i
    sent_first (inr i) =
        absurd
        (no_own r id (epoch_of (state_of m).notes) m.came turn.event o (is_sent id v) i)

    sent_more : In o (first ++ own) ⊎ In o asks → has_vote notes v ≡ true
    sent_more (inl i) = sent_first (in_cases o first own i)
    sent_more (inr i) = absurd (no_asks id asked o (is_sent id v) i)

    last : In o (first ++ own ++ asks) ⊎ In o answers → has_vote notes v ≡ true
    last (inl i) = sent_more (in_cases o (first ++ own) asks i)
    last (inr i) = absurd (no_answer r id after.notes turn.event o (is_sent id v) i)

turns_keep : (r : Rules) (id : ℕ) (m : Member) (turns : List Turn) (v : Vote)
    → has_vote (member_notes m) v ≡ true
    → has_vote (member_notes (after_turns r id m turns)) v ≡ true
turns_keep r id m [] v h = h
turns_keep r id m (turn ∷ turns) v h =
    let notes = step_notes r id (taken r turn.signed (state_of m) turn.event) turn.event in
    turns_keep r id (step r id turn.signed m turn.event).member turns v
    (ap (λ (l : List Note). has_vote l v) (frame_added m.frames notes)
    ∙ any_front (is_vote v) (member_notes m) notes h)

lives_keep : (id : ℕ) (frames : List (List Note)) (lives : List Life) (v : Vote)
    → has_vote (flat_map (λ (frame : List Note). frame) frames) v ≡ true
    → has_vote (flat_map (λ (frame : List Note). frame) (after_lives id frames lives)) v ≡ true
lives_keep id frames [] v h = h
lives_keep id frames (life ∷ lives) v h =
    lives_keep id (since_start life.rules id frames life.turns).frames lives v
    (turns_keep life.rules id (start life.rules id frames).member life.turns v h)

pub sent_stays : (r : Rules) (id : ℕ) (m : Member) (turn : Turn) (v : Vote) (more : List Turn)
    (lives : List Life)
    → SendsVote r id m turn v
    → has_vote (flat_map (λ (frame : List Note). frame) (after_lives id
    (after_turns r id (step r id turn.signed m turn.event).member more).frames lives)) v
    ≡ true
sent_stays r id m turn v more lives sends =
    let next = (step r id turn.signed m turn.event).member in
    lives_keep id (after_turns r id next more).frames lives v
    (turns_keep r id next more v (step_voted r id m turn v sends))
