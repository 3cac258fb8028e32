-- Each block noted in a run can be written, where what the script brings in can: its bytes tell it.
use Rattle.std.proofs.Common.{◌≡◌, ℕ, zero, suc, ◌+◌, Bool, true, false, ◌&&◌, ◌||◌, ◌==◌, not, cond, nat_lt, List, [], ◌∷◌, ◌++◌, Option, Some, None, is_some, length, map, filter, filter_map, flat_map, slice_get, unwrap_or, option_map, option_and_then, refl, sym, ◌∙◌, subst, inl, inr, ◌⊎◌, arith}
use Rattle.std.specs.List.{AllByRecursion, list_any, last_or, cons_option, range_with_len}
use Rattle.std.specs.Option.{option_map_or}
use Rattle.std.proofs.lemmas.Option.{same_Some}
use Rattle.cw_base.specs.Config.{same_counts}
use Rattle.cw_base.specs.ReadsBack.{IsBytes}
use Rattle.cw_types.specs.Values.{IsBlock, IsCommitment, IsMessage}
use Rattle.cw_types.proofs.MessageLaws.{message_found}
use Rattle.cw_types.specs.Reading.{message_of}
use Rattle.cw_types.specs.declared.commitment.Commitment.{Commitment}
use Rattle.cw_types.specs.declared.event.Event.{Event}
use Rattle.cw_types.specs.declared.event.Out.{Out}
use Rattle.cw_types.specs.declared.event.To.{To}
use Rattle.cw_types.specs.declared.message.Message.{Message}
use Rattle.cw_types.specs.declared.note.Note.{Note}
use Rattle.cw_types.specs.declared.vote.Cert.{Cert}
use Rattle.cw_types.specs.declared.vote.Proposal.{Proposal}
use Rattle.cw_types.specs.declared.vote.Vote.{Vote}
use Rattle.cw_types.specs.declared.vote.Vote.TheVariants.{Finalize, Notarize}
use Rattle.cw_types.specs.Block.{Block}
use Rattle.cw_types.specs.Epochs.{is_member, members_in, place}
use Rattle.cw_types.specs.Same.{same_commitment}
use Rattle.cw_types.specs.Votes.{finalized, proposal_of, vote_epoch, well_formed}
use Rattle.cw_rules.specs.Accepted.{Ballot, Came, Many, Part, Row, Single, State, Whole, accepted, add_wish, first_some, is_chunk_of, is_valid, same_ballot, same_part, take_ballot, take_part, wish_for, wished}
use Rattle.cw_rules.specs.Chains.{Clashes, all_notes, outcome}
use Rattle.cw_rules.specs.Coding.{AreBytes}
use Rattle.cw_rules.specs.Fits.{context_for}
use Rattle.cw_rules.specs.Held.{held, noted_block_of}
use Rattle.cw_rules.specs.Notes.{epoch_of}
use Rattle.cw_rules.specs.Reached.{In, IsCluster, IsKnown, Reaches}
use Rattle.cw_rules.specs.Rules.{Chunk, Rules, chunks, commit, config, digest, genesis, genesis_commitment}
use Rattle.cw_rules.specs.declared.travel.Travel.{Travel}
use Rattle.cw_rules.specs.declared.travel.Travel.TheVariants.{Chunked, Uncut}
use Rattle.cw_rules.specs.Sends.{answer, block_sends, chunk_out, finalization_at, finalization_outs, missing, note_sends, own_chunk, sends, to_all}
use Rattle.cw_rules.specs.Step.{Member, Stepped, cut_step, member_notes, nothing_came, start, state_of, step, step_notes, stopped, taken, taken_came, with_notes}
use Rattle.cw_rules.specs.Telling.{FitsAsk, FitsFault, FitsLine, TellsBlocks}
use Rattle.cw_rules.specs.World.{Ask, Cut, Do, Fault, Faulty, Line, Restart, Sent, World, as_finalization, done_by, event_of, fault_sends, faults, happens, is_to, line_member, member_at, message_for, opening, run, sent_from, sent_now, signed, turned, voted_on, with_done}
use Rattle.cw_rules.specs.World as line
use Rattle.cw_rules.proofs.ClashFound.{script_clash}
use Rattle.cw_rules.proofs.Lists.{all_both, and_then_some, first_some_at, map_some}
use Rattle.cw_rules.proofs.Worlds.{frames_join, get-map_from, get-set, member_there}
use Rattle.cw_rules.proofs.Noting.{CanNote, CanPart, CanSend, CanEvent, all_get, first_can, genesis_can, held_can, leader_can, noted_can, notes_can}

all_in : {X : Type 0} (P : X → Type 0) (xs : List X) (x : X) → AllByRecursion P xs → In x xs → P x
all_in P [] x a h = absurd h
all_in P (y ∷ ys) x a (inl e) = subst P (sym e) a.0
all_in P (y ∷ ys) x a (inr h) = all_in P ys x a.1 h

-- numbers that are bytes are so by place
pub bytes_by_place : (xs : List ℕ) → AreBytes xs → IsBytes xs
bytes_by_place [] a i = omega arith
bytes_by_place (x ∷ xs) a zero = a.0
bytes_by_place (x ∷ xs) a (suc i) = bytes_by_place xs a.1 i

module _ (r : Rules) (script : List Line) (tells : TellsBlocks r)
    (cluster : IsCluster r script) where
  -- ---- what is accepted

  ballot_can : (came : Came) (fits : Bool) (b : Ballot) → AllByRecursion CanPart came.parts
      → AllByRecursion CanPart (take_ballot came fits b).parts
  ballot_can came fits b a = go (fits && not (list_any (same_ballot b) came.ballots))
    where
      more : Came
      more = record { ballots = came.ballots ++ b ∷ []; parts = came.parts; wishes = came.wishes }

      go : (t : Bool) → AllByRecursion CanPart (cond t more came).parts
      go true = a
      go false = a

  part_can : (came : Came) (fits : Bool) (p : Part) → AllByRecursion CanPart came.parts → CanPart p
      → AllByRecursion CanPart (take_part came fits p).parts
  part_can came fits p a can = go (fits && not (list_any (same_part p) came.parts))
    where
      more : Came
      more = record { ballots = came.ballots; parts = came.parts ++ p ∷ []; wishes = came.wishes }

      go : (t : Bool) → AllByRecursion CanPart (cond t more came).parts
      go true = all_both CanPart came.parts (p ∷ []) a (can, tt)
      go false = a

  accepted_can : (sign : ℕ → Vote → Bool) (came : Came) (m : Message)
      → AllByRecursion CanPart came.parts → CanSend m
      → AllByRecursion CanPart (accepted r sign came m).parts
  accepted_can sign came (Message.Vote i v) a can =
      ballot_can came (is_member r.epochs (vote_epoch v) i && well_formed v && sign i v)
      (Single i v) a
  accepted_can sign came (Message.Cert s) a can = ballot_can came (is_valid r sign s) (Many s) a
  accepted_can sign came (Message.Shard c x) a can =
      part_can came (is_chunk_of r c x) (Row c x) a tt
  accepted_can sign came (Message.Block b) a can = part_can came true (Whole b) a can
  accepted_can sign came _ a can = a

  wished_can : (sign : ℕ → Vote → Bool) (came : Came) (s : Cert) → AllByRecursion CanPart came.parts
      → AllByRecursion CanPart (wished r sign came s).parts
  wished_can sign came s a = by_proposal (finalized s.vote)
    where
      by_valid : (p : Proposal) (t : Bool)
          → AllByRecursion CanPart
          (cond t (add_wish (take_ballot came true (Many s)) p.payload) came).parts
      by_valid p true = ballot_can came true (Many s) a
      by_valid p false = a

      by_proposal : (o : Option Proposal)
          → AllByRecursion CanPart (option_map_or (wish_for r sign came s) o came).parts
      by_proposal None = a
      by_proposal (Some p) = by_valid p (is_valid r sign s)

  taken_can : (sign : ℕ → Vote → Bool) (came : Came) (e : Event) → AllByRecursion CanPart came.parts
      → CanEvent e → AllByRecursion CanPart (taken_came r sign came e).parts
  taken_can sign came (Event.Deliver m) a can = accepted_can sign came m a can
  taken_can sign came (Event.Floor c) a can = wished_can sign came c a
  taken_can sign came _ a can = a

  -- ---- what is sent

  abbrev CanOut : Out → Type 0
  CanOut o = CanSend o.message

  out_chunks : (id : ℕ) (list : List ℕ) (c : Commitment) (xs : List Chunk)
      → AllByRecursion CanOut (filter_map (chunk_out id list c) xs)
  out_chunks id list c [] = tt
  out_chunks id list c (x ∷ xs) = go (slice_get list x.index) (out_chunks id list c xs)
    where
      go : (o : Option ℕ) → AllByRecursion CanOut (filter_map (chunk_out id list c) xs)
          → AllByRecursion CanOut
          (cons_option
          (option_map (λ (j : ℕ). record {
            to = cond (j == id) To.All (To.One j);
            message = Message.Shard c x;
          }) o)
          (filter_map (chunk_out id list c) xs))
      go None a = a
      go (Some j) a = (tt, a)

  -- what a block sends can be, where the block is known to be written as it is
  out_block : (t : Travel) (id epoch : ℕ) (b : Block) → IsBlock b
      → AllByRecursion CanOut (block_sends t r id epoch b)
  out_block Chunked id epoch b can =
      out_chunks id (members_in r.epochs epoch) (commit r b) (chunks r b)
  out_block Uncut id epoch b can = (can, tt)

  -- the block of the first note of a commitment
  first_noted_can : (c : Commitment) (all : List Note) (b : Block) → AllByRecursion (CanNote r) all
      → first_some (noted_block_of c) all ≡ Some b → IsBlock b
  first_noted_can c all b a e =
      (first_some_at (noted_block_of c) (CanNote r) (λ y. IsBlock y × IsCommitment c) all a
      (noted_can r script tells cluster c) b e).0

  out_optional : {X : Type 0} (f : X → List Out) (o : Option X)
      → ((x : X) → o ≡ Some x → AllByRecursion CanOut (f x))
      → AllByRecursion CanOut (option_map_or f o [])
  out_optional f None each = tt
  out_optional f (Some x) each = each x refl

  out_if : (t : Bool) (xs : List Out) → AllByRecursion CanOut xs
      → AllByRecursion CanOut (cond t xs [])
  out_if true xs a = a
  out_if false xs a = tt

  out_notes : (id : ℕ) (all notes : List Note) → AllByRecursion (CanNote r) all
      → AllByRecursion CanOut (flat_map (note_sends r id all) notes)
  out_notes id all [] a = tt
  out_notes id all (n ∷ ns) a =
      all_both CanOut (note_sends r id all n) (flat_map (note_sends r id all) ns) (of n)
      (out_notes id all ns a)
    where
      of : (n : Note) → AllByRecursion CanOut (note_sends r id all n)
      of (Note.Verified epoch view c) =
          out_optional (block_sends r.travel r id epoch) (first_some (noted_block_of c) all)
          (λ b e. out_block r.travel id epoch b (first_noted_can c all b a e))
      of (Note.Vote v) = (tt, tt)
      of (Note.Cert s) = (tt, tt)
      of _ = tt

  out_own : (id epoch : ℕ) (came : Came) (e : Event)
      → AllByRecursion CanOut (own_chunk r id epoch came e)
  out_own id epoch came (Event.Deliver m) = by_message m
    where
      by_message : (m : Message)
          → AllByRecursion CanOut (own_chunk r id epoch came (Event.Deliver m))
      by_message (Message.Shard c x) =
          out_if
          (option_map_or (λ at. x.index == at) (place r.epochs epoch id) false
          && same_counts c.config (config r epoch) && is_chunk_of r c x
          && not (list_any (same_part (Row c x)) came.parts))
          (to_all (Message.Shard c x) ∷ []) (tt, tt)
      by_message _ = tt
  out_own id epoch came _ = tt

  out_asks : (id : ℕ) (cs : List Commitment)
      → AllByRecursion CanOut (map (λ c. to_all (Message.Ask id c)) cs)
  out_asks id [] = tt
  out_asks id (c ∷ cs) = (tt, out_asks id cs)

  out_finalization : (notes : List Note) (to : ℕ) (s : Cert) → AllByRecursion (CanNote r) notes
      → AllByRecursion CanOut (finalization_outs r notes to s)
  out_finalization notes to s a = (
    tt,
    out_optional (λ b. record { to = To.One to; message = Message.Block b } ∷ [])
        (option_and_then (λ p. held r notes p.payload) (proposal_of s.vote)) (λ b e.
        let (p, f, g) =
        and_then_some (λ (p : Proposal). held r notes p.payload) (proposal_of s.vote) b e in
        ((held_can r script tells cluster notes p.payload b a g).0, tt)),
  )

  out_answer : (id : ℕ) (notes : List Note) (e : Event) → AllByRecursion (CanNote r) notes
      → AllByRecursion CanOut (answer r id notes e)
  out_answer id notes (Event.Deliver m) a = by_message m
    where
      by_message : (m : Message) → AllByRecursion CanOut (answer r id notes (Event.Deliver m))
      by_message (Message.Ask j c) =
          out_if (nat_lt j r.epochs.total && not (same_commitment c (genesis_commitment r)))
          (option_map_or (λ b. record { to = To.One j; message = Message.Block b } ∷ [])
          (held r notes c) [])
          (out_optional (λ b. record { to = To.One j; message = Message.Block b } ∷ [])
          (held r notes c) (λ b e. ((held_can r script tells cluster notes c b a e).0, tt)))
      by_message (Message.AskHeight j h) =
          out_if (nat_lt j r.epochs.total)
          (option_map_or (finalization_outs r notes j)
          (first_some (finalization_at r notes h) notes) [])
          (out_optional (finalization_outs r notes j) (first_some (finalization_at r notes h) notes)
          (λ s e. out_finalization notes j s a))
      by_message _ = tt
  out_answer id notes (Event.Hint h) a = go (first_some (finalization_at r notes h) notes)
    where
      go : (o : Option Cert)
          → AllByRecursion CanOut (option_map_or (λ _. []) o (to_all (Message.AskHeight id h) ∷ []))
      go None = (tt, tt)
      go (Some s) = tt
  out_answer id notes _ a = tt

  out_sends : (id : ℕ) (before after : State) (e : Event) (notes : List Note)
      → AllByRecursion (CanNote r) after.notes
      → AllByRecursion CanOut (sends r id before after e notes)
  out_sends id before after e notes a =
      let first = flat_map (note_sends r id after.notes) notes in
      let own = own_chunk r id (epoch_of before.notes) before.came e in
      let news =
      filter (λ c. not (list_any (same_commitment c) (missing r before))) (missing r after) in
      let asks = map (λ c. to_all (Message.Ask id c)) news in
      all_both CanOut (first ++ own ++ asks) (answer r id after.notes e)
      (all_both CanOut (first ++ own) asks
      (all_both CanOut first own (out_notes id after.notes notes a)
      (out_own id (epoch_of before.notes) before.came e))
      (out_asks id news))
      (out_answer id after.notes e a)

  -- ---- a turn

  -- what is noted, came and leaves can be written
  record CanTurn (done : Stepped) : Type 0 where
    pub notes : AllByRecursion (CanNote r) (member_notes done.member)
    pub parts : AllByRecursion CanPart done.member.came.parts
    pub outs : AllByRecursion CanOut done.sent

  record CanMember (m : Member) : Type 0 where
    pub notes : AllByRecursion (CanNote r) (member_notes m)
    pub parts : AllByRecursion CanPart m.came.parts

  step_can : (id : ℕ) (sign : ℕ → Vote → Bool) (m : Member) (e : Event) → CanMember m → CanEvent e
      → CanTurn (step r id sign m e)
  step_can id sign m e can event =
      let during = taken r sign (state_of m) e in
      let parts = taken_can sign m.came e can.parts event in
      let notes = step_notes r id during e in
      let made = notes_can r script tells cluster id during e can.notes parts event in
      let all = all_both (CanNote r) (member_notes m) notes can.notes made in
      record {
        notes = subst (AllByRecursion (CanNote r)) (sym (frames_join m.frames notes)) all;
        parts = parts;
        outs = out_sends id (state_of m) (with_notes during notes) e notes all;
      }

  cut_can : (id : ℕ) (sign : ℕ → Vote → Bool) (m : Member) (a c x : ℕ) (e : Event) → CanMember m
      → CanEvent e → CanTurn (cut_step r id sign m a c x e)
  cut_can id sign m a c x e can event = by_end ((length notes == 0) || nat_lt 4 a)
    where
      done : Stepped
      done = step r id sign m e

      notes : List Note
      notes = step_notes r id (taken r sign (state_of m) e) e

      whole : Stepped
      whole =
          record {
            member = stopped done.member done.member.frames;
            sent = done.sent;
            handed = done.handed;
            tickets = done.tickets;
          }

      part : Bool → Stepped
      part b =
          record {
            member = stopped m (cond b done.member.frames m.frames);
            sent = [];
            handed = [];
            tickets = [];
          }

      by_stay : (b : Bool) → CanTurn (part b)
      by_stay true =
          record { notes = (step_can id sign m e can event).notes; parts = can.parts; outs = tt }
      by_stay false = record { notes = can.notes; parts = can.parts; outs = tt }

      by_end : (b : Bool) → CanTurn (cond b whole (part (nat_lt 2 a && (nat_lt 0 c || (x == 1)))))
      by_end true =
          let k = step_can id sign m e can event in
          record { notes = k.notes; parts = k.parts; outs = k.outs }
      by_end false = by_stay (nat_lt 2 a && (nat_lt 0 c || (x == 1)))

  start_can : (id : ℕ) (frames : List (List Note))
      → AllByRecursion (CanNote r) (flat_map (λ frame. frame) frames) → CanTurn (start r id frames)
  start_can id frames a = record {
    notes = a;
    parts = tt;
    outs =
        all_both CanOut (flat_map (note_sends r id all) (unwrap_or (last_or None frames) []))
        (map (λ c. to_all (Message.Ask id c)) gone)
        (out_notes id all (unwrap_or (last_or None frames) []) a) (out_asks id gone);
  }
    where
      all : List Note
      all = flat_map (λ frame. frame) frames

      gone : List Commitment
      gone = missing r (record { notes = all; came = nothing_came; given = [] })

  -- ---- a world

  abbrev CanSent : Sent → Type 0
  CanSent s = CanSend s.message

  record CanWorld (w : World) : Type 0 where
    pub pool : AllByRecursion CanSent w.pool
    pub each : (i : ℕ) (m : Member) → slice_get w.members i ≡ Some (Some m) → CanMember m

  sent_can : (n i : ℕ) (outs : List Out) → AllByRecursion CanOut outs
      → AllByRecursion CanSent (sent_from n i outs)
  sent_can n i [] a = tt
  sent_can n i (o ∷ os) a = (a.0, sent_can (n + 1) i os a.1)

  pool_can : (w : World) (i : ℕ) (outs : List Out) → CanWorld w → AllByRecursion CanOut outs
      → AllByRecursion CanSent (w.pool ++ sent_now w i outs)
  pool_can w i outs k a =
      all_both CanSent w.pool (sent_now w i outs) k.pool (sent_can (length w.pool) i outs a)

  done_can : (w : World) (i : ℕ) (done : Stepped) → CanWorld w → CanTurn done
      → CanWorld (with_done w i done)
  done_can w i done k t =
      record {
        pool = pool_can w i done.sent k t.outs;
        each = λ j m h. by_place j m (get-set w.members i j (Some done.member) (Some m) h);
      }
    where
      by_place : (j : ℕ) (m : Member)
          → ((i ≡ j) × (Some done.member ≡ Some m))
          ⊎ ((i ≡ j → ⊥) × (slice_get w.members j ≡ Some (Some m)))
          → CanMember m
      by_place j m (inl p) =
          subst CanMember (same_Some done.member m p.1) (record {
            notes = t.notes;
            parts = t.parts;
          })
      by_place j m (inr p) = k.each j m p.1

  event_can : (w : World) (i : ℕ) (ask : Ask) (e : Event) → CanWorld w → FitsAsk ask
      → event_of w i ask ≡ Some e → CanEvent e
  event_can w i (line.Propose payload) e k fits h =
      subst CanEvent (same_Some (Event.Propose payload) e h) fits
  event_can w i (line.Timeout view) e k fits h =
      subst CanEvent (same_Some (Event.Timeout view) e h) tt
  event_can w i (line.Deliver number) e k fits h =
      let (m, f, g) = map_some Event.Deliver (message_for w i number) e h in
      subst CanEvent g (delivered m f)
    where
      delivered : (m : Message) → message_for w i number ≡ Some m → CanSend m
      delivered m f =
          let (s, at, g) =
          and_then_some (λ (s : Sent). cond (is_to i s.to) (Some s.message) None)
          (slice_get w.pool number) m f in
          same s m (is_to i s.to) g (all_get CanSent w.pool number s k.pool at)
        where
          same : (s : Sent) (m : Message) (t : Bool) → cond t (Some s.message) None ≡ Some m
              → CanSend s.message → CanSend m
          same s m true g can = subst CanSend (same_Some s.message m g) can
          same s m false g can = cc
  event_can w i line.Ack e k fits h = subst CanEvent (same_Some Event.Ack e h) tt
  event_can w i (line.Prune height) e k fits h =
      subst CanEvent (same_Some (Event.Prune height) e h) tt
  event_can w i (line.Floor number) e k fits h =
      let (m, f, g) = and_then_some as_finalization (message_for w i number) e h in
      by_message m g
    where
      by_if : (s : Cert) (t : Bool) → cond t (Some (Event.Floor s)) None ≡ Some e → CanEvent e
      by_if s true g = subst CanEvent (same_Some (Event.Floor s) e g) tt
      by_if s false g = cc

      by_message : (m : Message) → as_finalization m ≡ Some e → CanEvent e
      by_message (Message.Cert s) g = by_if s (is_some (finalized s.vote)) g
      by_message (Message.Vote j v) g = cc
      by_message (Message.Shard c x) g = cc
      by_message (Message.Ask j c) g = cc
      by_message (Message.AskHeight j c) g = cc
      by_message (Message.Block b) g = cc
      by_message (Message.Junk bytes) g = cc
  event_can w i (line.Hint height) e k fits h =
      subst CanEvent (same_Some (Event.Hint height) e h) tt

  turned_can : (w : World) (i : ℕ) (l : Line) (m : Member) (done : Stepped) → CanWorld w
      → FitsLine l → CanMember m → turned r w i l m ≡ Some done → CanTurn done
  turned_can w i (Do j ask) m done k fits can h = by_live m.live h
    where
      by_live : (b : Bool)
          → cond b (option_map (step r i (signed w) m) (event_of w i ask)) None ≡ Some done
          → CanTurn done
      by_live true h =
          let (e, f, g) = map_some (step r i (signed w) m) (event_of w i ask) done h in
          subst CanTurn g (step_can i (signed w) m e can (event_can w i ask e k fits f))
      by_live false h = cc
  turned_can w i (Cut a c x j ask) m done k fits can h = by_live m.live h
    where
      by_live : (b : Bool)
          → cond b (option_map (cut_step r i (signed w) m a c x) (event_of w i ask)) None
          ≡ Some done
          → CanTurn done
      by_live true h =
          let (e, f, g) = map_some (cut_step r i (signed w) m a c x) (event_of w i ask) done h in
          subst CanTurn g (cut_can i (signed w) m a c x e can (event_can w i ask e k fits f))
      by_live false h = cc
  turned_can w i (Restart j) m done k fits can h = by_live m.live h
    where
      by_live : (b : Bool) → cond b None (Some (start r i m.frames)) ≡ Some done → CanTurn done
      by_live true h = cc
      by_live false h =
          subst CanTurn (same_Some (start r i m.frames) done h) (start_can i m.frames can.notes)
  turned_can w i (Faulty j fault) m done k fits can h = cc

  after_can : (w : World) (l : Line) → CanWorld w → FitsLine l → (o : Option Stepped)
      → done_by r w l ≡ o → CanWorld (option_map_or (with_done w (line_member l)) o w)
  after_can w l k fits None e = k
  after_can w l k fits (Some done) e =
      let i = line_member l in
      let (m, f, g) = and_then_some (turned r w i l) (member_at w i) done e in
      done_can w i done k (turned_can w i l m done k fits (k.each i m (member_there w i m f)) g)

  -- ---- faulty members

  votes_can : (a : ℕ) (vote : Proposal → Vote) (o : Option Proposal)
      → AllByRecursion CanOut (option_map_or (λ p. to_all (Message.Vote a (vote p)) ∷ []) o [])
  votes_can a vote None = tt
  votes_can a vote (Some p) = (tt, tt)

  raw_can : (m : Message) → IsMessage m → CanSend m
  raw_can (Message.Block b) h = h
  raw_can _ h = tt

  fault_can : (w : World) (a : ℕ) (fault : Fault) → FitsFault fault
      → AllByRecursion CanOut (fault_sends r w a fault)
  fault_can w a line.Silent fits = tt
  fault_can w a (line.Offer view payload) fits =
      all_both CanOut (block_sends r.travel r a 0 b)
      (to_all (Message.Vote a (Notarize (record {
        epoch = 0;
        view = view;
        parent = 0;
        payload = commit r b;
      }))) ∷ [])
      (out_block r.travel a 0 b can) (tt, tt)
    where
      b : Block
      b =
          record {
            context = context_for r (record {
              epoch = 0;
              view = view;
              parent = 0;
              payload = genesis_commitment r;
            }) (genesis_commitment r);
            parent = digest r (genesis r);
            height = 1;
            payload = payload;
          }

      can : IsBlock b
      can = record {
        context =
            record {
              epoch = omega arith;
              view = fits.0;
              leader = leader_can r script tells cluster 0 view;
              parent_view = omega arith;
              parent = first_can r script tells cluster;
            };
        parent = tells.digests _;
        height = omega arith;
        payload = fits.1;
      }
  fault_can w a (line.Notarize_of number) fits = votes_can a Notarize (voted_on w number)
  fault_can w a (line.Finalize_of number) fits = votes_can a Finalize (voted_on w number)
  fault_can w a (line.Nullify_of view) fits = (tt, tt)
  fault_can w a (line.Raw bytes) fits =
      (raw_can (message_of bytes) (message_found bytes (bytes_by_place bytes fits)).1, tt)

  -- ---- a run

  line_can : (w : World) (l : Line) → CanWorld w → FitsLine l → CanWorld (happens r w l)
  line_can w (Faulty a fault) k fits =
      record {
        pool = pool_can w a (fault_sends r w a fault) k (fault_can w a fault fits);
        each = k.each;
      }
  line_can w (Do i ask) k fits = after_can w (Do i ask) k fits (done_by r w (Do i ask)) refl
  line_can w (Cut a c x i ask) k fits =
      after_can w (Cut a c x i ask) k fits (done_by r w (Cut a c x i ask)) refl
  line_can w (Restart i) k fits = after_can w (Restart i) k fits (done_by r w (Restart i)) refl

  run_can : (w : World) (lines : List Line) → CanWorld w → AllByRecursion FitsLine lines
      → CanWorld (run r w lines)
  run_can w [] k a = k
  run_can w (l ∷ ls) k a = run_can (happens r w l) ls (line_can w l k a.0) a.1

  opening_can : CanWorld (opening r script)
  opening_can =
      record {
        pool = tt;
        each =
            λ i m h. by_each i m
            (get-map_from start_of (range_with_len 0 r.epochs.total) i (Some m) h);
      }
    where
      start_of : ℕ → Option Member
      start_of i = cond (list_any (faults i) script) None (Some (start r i []).member)

      by_start : (m : Member) (k : ℕ) (b : Bool) → cond b None (Some (start r k []).member) ≡ Some m
          → CanMember m
      by_start m k true e = cc
      by_start m k false e =
          subst CanMember (same_Some (start r k []).member m e) (record { notes = tt; parts = tt })

      by_each : (i : ℕ) (m : Member)
          → ((k : ℕ) × (slice_get (range_with_len 0 r.epochs.total) i ≡ Some k)
          × (start_of k ≡ Some m))
          → CanMember m
      by_each i m (k, at, e) = by_start m k (list_any (faults k) script) e

  front_fits : (before rest : List Line) → AllByRecursion FitsLine (before ++ rest)
      → AllByRecursion FitsLine before
  front_fits [] rest a = tt
  front_fits (l ∷ ls) rest a = (a.0, front_fits ls rest a.1)

  members_can : (pool : List Sent) (os : List (Option Member))
      → ((i : ℕ) (m : Member) → slice_get os i ≡ Some (Some m) → CanMember m)
      → AllByRecursion (CanNote r) (all_notes (record { members = os; pool = pool }))
  members_can pool [] h = tt
  members_can pool (None ∷ os) h = members_can pool os (λ i m e. h (suc i) m e)
  members_can pool (Some x ∷ os) h =
      all_both (CanNote r) (member_notes x) (all_notes (record { members = os; pool = pool }))
      (h 0 x refl).notes (members_can pool os (λ i m e. h (suc i) m e))

  known_can : (w : World) (b : Block) → CanWorld w → IsKnown r w b → IsBlock b
  known_can w b k (inl e) = subst IsBlock (sym e) (genesis_can r script tells cluster)
  known_can w b k (inr (c, there)) =
      (all_in (CanNote r) (all_notes w) (Note.Block c b) (members_can w.pool w.members k.each)
      there).0

  -- so each block that is known in a world that the script reaches can be written
  pub known_written : AllByRecursion FitsLine script → (w : World) (b : Block) → Reaches r script w
      → IsKnown r w b → IsBlock b
  known_written fits w b (before, rest, joined, e) k =
      known_can w b
      (subst CanWorld (sym e)
      (run_can (opening r script) before opening_can
      (front_fits before rest (subst (AllByRecursion FitsLine) joined fits))))
      k

  -- a clash is of two different texts
  pub texts_differ : AllByRecursion FitsLine script → (earlier later : List ℕ)
      → outcome r (opening r script) script ≡ Clashes earlier later → earlier ≡ later → ⊥
  texts_differ fits earlier later h same =
      let (w, reached, k) = script_clash r script earlier later h in
      k.different
      (tells.blocks k.first k.second (known_written fits w k.first reached k.known.0)
      (known_written fits w k.second reached k.known.1) (sym k.encoded.0 ∙ same ∙ k.encoded.1))
