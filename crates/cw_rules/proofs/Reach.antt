-- Every world that a script reaches is kept, turn by turn, and so it is lawful.
use Rattle.std.proofs.Common.{◌≡◌, ℕ, Bool, true, false, ◌&&◌, ◌||◌, ◌==◌, not, cond, nat_lt, nat_le, List, [], ◌∷◌, ◌++◌, Option, Some, None, is_none, IsTrue, length, option_map, slice_get, refl, sym, ◌∙◌, ap, subst, inl, inr, ◌⊎◌, arith, append_assoc, append-nil, leb-true, eq-eqb}
use Rattle.std.specs.List.{list_any, list_all, AllByRecursion, range_with_len}
use Rattle.std.specs.Option.{option_map_or}
use Rattle.std.proofs.lemmas.Bool.{and_parts, or_left, or_right, false≢true, cases_Bool, cond-true, cond-false}
use Rattle.cw_types.specs.declared.event.Event.{Event}
use Rattle.cw_types.specs.declared.event.Out.{Out}
use Rattle.cw_types.specs.declared.message.Message.{Message}
use Rattle.cw_types.specs.declared.note.Note.{Note}
use Rattle.cw_types.specs.declared.vote.Cert.{Cert}
use Rattle.cw_types.specs.declared.vote.Proposal.{Proposal}
use Rattle.cw_types.specs.declared.vote.Vote.{Vote}
use Rattle.cw_types.specs.Epochs.{is_member, members_in, rises_from, size}
use Rattle.cw_types.specs.Numbers.{quorum}
use Rattle.cw_types.specs.Votes.{finalized, vote_epoch, well_formed}
use Rattle.cw_rules.specs.Accepted.{Ballot, Came, Many, Part, Row, Single, State, Whole, accepted, add_wish, is_chunk_of, is_valid, same_ballot, same_part, take_ballot, take_part, wish_for, wished}
use Rattle.cw_rules.specs.Fits.{block_fits}
use Rattle.cw_rules.specs.Keeps.{AllKeep, AreAlong, IsClosed, IsRising, IsSound, Meaning, meaning}
use Rattle.cw_rules.specs.Notes.{has_vote, is_vote}
use Rattle.cw_rules.specs.Reached.{IsCluster, IsMemberKept, IsSigned, Reaches, members_of}
use Rattle.cw_rules.specs.Rules.{Rules}
use Rattle.cw_rules.specs.Stands.{AreLawful, Stands, is_faulty_at}
use Rattle.cw_rules.specs.Step.{Member, Stepped, cut_step, member_notes, start, state_of, step, step_notes, stopped, taken, taken_came, with_notes}
use Rattle.cw_rules.specs.World.{Cut, Do, Faulty, Line, Restart, World, done_by, event_of, fault_sends, faults, happens, is_sent_vote, line_member, member_at, opening, run, sent_now, signed, turned, with_done, with_sends}
use Rattle.std.proofs.lemmas.Option.{same_Some}
use Rattle.std.proofs.lemmas.List.Folds.{list_any-append}
use Rattle.std.proofs.lemmas.List.FromFn.{length-range_with_len}
use Rattle.cw_rules.proofs.Lists.{and_then_some}
use Rattle.cw_rules.proofs.NoteLemmas.{any_back}
use Rattle.cw_rules.proofs.StepKeeps.{step_keeps}
use Rattle.cw_rules.proofs.Grows.{Grows, count_more, Grows_sound, Grows_sound_one, holds_stands, meaning_closed}
use Rattle.cw_rules.proofs.Sends.{any_cases, votes, sends_voted, start_voted}
use Rattle.cw_rules.proofs.Worlds.{IsWorldKept, Turns, world_done, grows_done, grows_at, at_own, at_notes, means_at, get-set_same, get-map, get-map_from, get-range, length-mapped, signed_backs, frames_join, member_there, sent_other, signs_more, signed_sends, kept_keep, kept_lawful}

-- ---- what is accepted is sound, and signed

-- what holds of all that came holds of what is accepted too, where it holds of each vote and
-- certificate that is accepted
module _ (P : Ballot → Type 0) where
  sound_push : (bs : List Ballot) (b : Ballot) → AllByRecursion P bs → P b
      → AllByRecursion P (bs ++ b ∷ [])
  sound_push [] b a s = (s, tt)
  sound_push (x ∷ xs) b a s = (a.0, sound_push xs b a.1 s)

  ballot_sound : (came : Came) (fits : Bool) (b : Ballot) → AllByRecursion P came.ballots
      → (fits ≡ true → P b) → AllByRecursion P (take_ballot came fits b).ballots
  ballot_sound came fits b a f =
      go (cases_Bool (fits && not (list_any (same_ballot b) came.ballots)))
    where
      more : Came
      more = record { ballots = came.ballots ++ b ∷ []; parts = came.parts; wishes = came.wishes }

      go : ((fits && not (list_any (same_ballot b) came.ballots)) ≡ true)
          ⊎ ((fits && not (list_any (same_ballot b) came.ballots)) ≡ false)
          → AllByRecursion P (take_ballot came fits b).ballots
      go (inl t) =
          subst (λ (c : Came). AllByRecursion P c.ballots)
          (sym (cond-true (fits && not (list_any (same_ballot b) came.ballots)) more came t))
          (sound_push came.ballots b a (f (and_parts fits _ t).0))
      go (inr n) =
          subst (λ (c : Came). AllByRecursion P c.ballots)
          (sym (cond-false (fits && not (list_any (same_ballot b) came.ballots)) more came n)) a

  part_sound : (came : Came) (fits : Bool) (p : Part) → AllByRecursion P came.ballots
      → AllByRecursion P (take_part came fits p).ballots
  part_sound came fits p a = go (fits && not (list_any (same_part p) came.parts))
    where
      more : Came
      more = record { ballots = came.ballots; parts = came.parts ++ p ∷ []; wishes = came.wishes }

      go : (b : Bool) → AllByRecursion P (cond b more came).ballots
      go true = a
      go false = a

  module _ (r : Rules) (sign : ℕ → Vote → Bool)
      (single : (i : ℕ) (v : Vote) → is_member r.epochs (vote_epoch v) i ≡ true
      → well_formed v ≡ true → sign i v ≡ true → P (Single i v))
      (many : (s : Cert) → is_valid r sign s ≡ true → P (Many s)) where
    accepted_sound : (came : Came) (msg : Message) → AllByRecursion P came.ballots
        → AllByRecursion P (accepted r sign came msg).ballots
    accepted_sound came (Message.Vote i v) a =
        ballot_sound came (is_member r.epochs (vote_epoch v) i && well_formed v && sign i v)
        (Single i v) a (λ t.
        let p = and_parts (is_member r.epochs (vote_epoch v) i && well_formed v) (sign i v) t in
        let q = and_parts (is_member r.epochs (vote_epoch v) i) (well_formed v) p.0 in
        single i v q.0 q.1 p.1)
    accepted_sound came (Message.Cert s) a =
        ballot_sound came (is_valid r sign s) (Many s) a (many s)
    accepted_sound came (Message.Shard c x) a = part_sound came (is_chunk_of r c x) (Row c x) a
    accepted_sound came (Message.Block b) a = part_sound came true (Whole b) a
    accepted_sound came _ a = a

    wished_sound : (came : Came) (s : Cert) → AllByRecursion P came.ballots
        → AllByRecursion P (wished r sign came s).ballots
    wished_sound came s a = by_proposal (finalized s.vote)
      where
        by_valid : (p : Proposal) → (is_valid r sign s ≡ true) ⊎ (is_valid r sign s ≡ false)
            → AllByRecursion P (wish_for r sign came s p).ballots
        by_valid p (inl t) =
            subst (λ (c : Came). AllByRecursion P c.ballots)
            (sym
            (cond-true (is_valid r sign s)
            (add_wish (take_ballot came true (Many s)) p.payload) came t))
            (ballot_sound came true (Many s) a (λ _. many s t))
        by_valid p (inr f) =
            subst (λ (c : Came). AllByRecursion P c.ballots)
            (sym
            (cond-false (is_valid r sign s)
            (add_wish (take_ballot came true (Many s)) p.payload) came f))
            a

        by_proposal : (o : Option Proposal)
            → AllByRecursion P (option_map_or (wish_for r sign came s) o came).ballots
        by_proposal None = a
        by_proposal (Some p) = by_valid p (cases_Bool (is_valid r sign s))

    all_taken : (came : Came) (e : Event) → AllByRecursion P came.ballots
        → AllByRecursion P (taken_came r sign came e).ballots
    all_taken came (Event.Deliver msg) a = accepted_sound came msg a
    all_taken came (Event.Floor c) a = wished_sound came c a
    all_taken came _ a = a

-- what is accepted is signed
taken_signed : (r : Rules) (sign : ℕ → Vote → Bool) (came : Came) (e : Event)
    → AllByRecursion (IsSigned r sign) came.ballots
    → AllByRecursion (IsSigned r sign) (taken_came r sign came e).ballots
taken_signed r sign came e a =
    all_taken (IsSigned r sign) r sign (λ i v is formed t. t) (λ s t. t) came e a

-- and sound, where who signed a vote backs it
module _ (m : Meaning) (r : Rules) (sign : ℕ → Vote → Bool) (closed : IsClosed r m)
    (true_sign : (i : ℕ) (v : Vote) → is_member r.epochs (vote_epoch v) i ≡ true → sign i v ≡ true
    → m.backs i v ≡ true) where
  signers_back : (v : Vote) (xs : List ℕ)
      → list_all (λ i. is_member r.epochs (vote_epoch v) i && sign i v) xs ≡ true
      → AllByRecursion (λ i. IsTrue (is_member r.epochs (vote_epoch v) i) × IsTrue (m.backs i v)) xs
  signers_back v [] h = tt
  signers_back v (x ∷ xs) h =
      let p =
      and_parts (is_member r.epochs (vote_epoch v) x && sign x v)
      (list_all (λ i. is_member r.epochs (vote_epoch v) i && sign i v) xs) h in
      let q = and_parts (is_member r.epochs (vote_epoch v) x) (sign x v) p.0 in
      ((q.0, true_sign x v q.0 q.1), signers_back v xs p.1)

  valid_holds : (s : Cert) → is_valid r sign s ≡ true → IsTrue (m.holds s.vote)
  valid_holds s h =
      let all =
      list_all (λ i. is_member r.epochs (vote_epoch s.vote) i && sign i s.vote) s.signers in
      let a =
      and_parts (well_formed s.vote && rises_from 0 s.signers && all)
      (nat_le (quorum (size r.epochs (vote_epoch s.vote))) (length s.signers)) h in
      let b = and_parts (well_formed s.vote && rises_from 0 s.signers) all a.0 in
      let c = and_parts (well_formed s.vote) (rises_from 0 s.signers) b.0 in
      closed s.vote s.signers c.1 (signers_back s.vote s.signers b.1)
      (leb-true (quorum (size r.epochs (vote_epoch s.vote))) (length s.signers) a.1)

  taken_sound : (came : Came) (e : Event) → AllByRecursion (IsSound m) came.ballots
      → AllByRecursion (IsSound m) (taken_came r sign came e).ballots
  taken_sound came e a =
      all_taken (IsSound m) r sign (λ i v is formed t. (formed, true_sign i v is t)) valid_holds
      came e a

-- ---- a member's turn

-- the meanings along the notes of a member that is there
along : (r : Rules) (w : World) (i : ℕ) (m : Member) → IsRising r
    → slice_get w.members i ≡ Some (Some m) → AreAlong r (means_at r w i) i
along r w i m rising at = record {
  closed = λ notes. meaning_closed r (at_notes w i notes) rising;
  grows =
      λ notes more b. Grows_sound_one r.epochs (at_notes w i notes) (at_notes w i (notes ++ more))
      (grows_at w i m at notes more) b;
  own =
      λ notes v h.
      rw (get-set_same (members_of w) i (Some notes) (Some (member_notes m))
      (get-map (option_map member_notes) w.members i (Some m) at))
      h;
}

-- what a turn needs to keep the world, where its notes are those of a step, whichever messages
-- leave
module _ (r : Rules) (script : List Line) (w : World) (c : IsCluster r script)
    (k : IsWorldKept r script w) (i : ℕ) (m : Member) (at : slice_get w.members i ≡ Some (Some m))
    (e : Event) where
  abbrev during : State
  during = taken r (signed w) (state_of m) e

  abbrev written : List Note
  written = step_notes r i during e

  -- what came is sound
  came_sound : AllByRecursion (IsSound (meaning r.epochs (members_of w))) during.came.ballots
  came_sound =
      taken_sound (meaning r.epochs (members_of w)) r (signed w)
      (meaning_closed r (members_of w) c.rising) (signed_backs r script w c k) m.came e
      (k.each i m at).came

  step_turns : (done : Stepped) → member_notes done.member ≡ member_notes m ++ written
      → Turns r w i m done
  step_turns done joined = record {
    more = written;
    joined = joined;
    keeps =
        step_keeps r (means_at r w i) i c.rising (along r w i m c.rising at) during e
        (subst (λ M. AllByRecursion (IsSound (meaning r.epochs M)) during.came.ballots)
        (sym (at_own w i m at)) came_sound);
  }

  world_noted : (done : Stepped) → (joined : member_notes done.member ≡ member_notes m ++ written)
      → (done.member.came.ballots ≡ m.came.ballots) ⊎ (done.member.came ≡ during.came)
      → ((v : Vote) → list_any (votes i v) done.sent ≡ true → has_vote written v ≡ true)
      → IsWorldKept r script (with_done w i done)
  world_noted done joined from sent =
      world_done r script w i m done (step_turns done joined) k at (by_came from) (by_signers from)
      (λ v h. subst (λ ns. has_vote ns v ≡ true) (sym joined)
      (any_back (is_vote v) (member_notes m) written (sent v h)))
    where
      g : Grows (members_of w) (members_of (with_done w i done))
      g = grows_done w i m done written at joined

      by_signers : (done.member.came.ballots ≡ m.came.ballots) ⊎ (done.member.came ≡ during.came)
          → AllByRecursion (IsSigned r (signed w)) done.member.came.ballots
      by_signers (inl x) =
          subst (AllByRecursion (IsSigned r (signed w))) (sym x) (k.each i m at).signers
      by_signers (inr x) =
          subst (λ (y : Came). AllByRecursion (IsSigned r (signed w)) y.ballots) (sym x)
          (taken_signed r (signed w) m.came e (k.each i m at).signers)

      by_came : (done.member.came.ballots ≡ m.came.ballots) ⊎ (done.member.came ≡ during.came)
          → AllByRecursion (IsSound (meaning r.epochs (members_of (with_done w i done))))
          done.member.came.ballots
      by_came (inl x) =
          subst (AllByRecursion (IsSound (meaning r.epochs (members_of (with_done w i done)))))
          (sym x)
          (Grows_sound r.epochs (members_of w) (members_of (with_done w i done)) g
          m.came.ballots (k.each i m at).came)
      by_came (inr x) =
          subst
          (λ (y : Came). AllByRecursion
          (IsSound (meaning r.epochs (members_of (with_done w i done)))) y.ballots)
          (sym x)
          (Grows_sound r.epochs (members_of w) (members_of (with_done w i done)) g
          during.came.ballots came_sound)

-- what a turn is: it writes what keeps, and keeps the world
pub record IsTurn (r : Rules) (script : List Line) (w : World) (i : ℕ) (m : Member)
    (done : Stepped) : Type 0 where
  pub turns : Turns r w i m done
  pub kept : IsWorldKept r script (with_done w i done)

-- a turn without notes
nothing_new : (r : Rules) (w : World) (i : ℕ) (m : Member) (done : Stepped)
    → member_notes done.member ≡ member_notes m → Turns r w i m done
nothing_new r w i m done e =
    record { more = []; joined = e ∙ sym (append-nil (member_notes m)); keeps = tt }

-- a step
world_step : (r : Rules) (script : List Line) (w : World) (i : ℕ) (m : Member) (e : Event)
    → IsCluster r script → IsWorldKept r script w → slice_get w.members i ≡ Some (Some m)
    → IsTurn r script w i m (step r i (signed w) m e)
world_step r script w i m e c k at =
    let notes = step_notes r i (taken r (signed w) (state_of m) e) e in
    let joined = frames_join m.frames notes in
    record {
      turns = step_turns r script w c k i m at e (step r i (signed w) m e) joined;
      kept = world_noted r script w c k i m at e (step r i (signed w) m e) joined (inr refl)
          (λ v h. sends_voted i v r i (state_of m)
          (with_notes (taken r (signed w) (state_of m) e) notes) e notes h);
    }

-- a stopped step: it completes, or its notes stay and nothing leaves, or it leaves nothing at all
world_cut : (r : Rules) (script : List Line) (w : World) (i : ℕ) (m : Member) (a c x : ℕ)
    (e : Event)
    → IsCluster r script → IsWorldKept r script w → slice_get w.members i ≡ Some (Some m)
    → IsTurn r script w i m (cut_step r i (signed w) m a c x e)
world_cut r script w i m a c x e cluster k at = by_end ((length notes == 0) || nat_lt 4 a)
  where
    done : Stepped
    done = step r i (signed w) m e

    notes : List Note
    notes = step_notes r i (taken r (signed w) (state_of m) e) e

    joined : member_notes done.member ≡ member_notes m ++ notes
    joined = frames_join m.frames notes

    whole : Stepped
    whole =
        record {
          member = stopped done.member done.member.frames;
          sent = done.sent;
          handed = done.handed;
          tickets = done.tickets;
        }

    frames_if : Bool → List (List Note)
    frames_if b = cond b done.member.frames m.frames

    part : Bool → Stepped
    part b = record { member = stopped m (frames_if b); sent = []; handed = []; tickets = [] }

    by_stay : (b : Bool) → IsTurn r script w i m (part b)
    by_stay true = record {
      turns = step_turns r script w cluster k i m at e (part true) joined;
      kept =
          world_noted r script w cluster k i m at e (part true) joined (inl refl)
          (λ v h. absurd (false≢true h));
    }
    by_stay false =
        let t = nothing_new r w i m (part false) refl in
        record {
          turns = t;
          kept = world_done r script w i m (part false) t k at
              (Grows_sound r.epochs (members_of w) (members_of (with_done w i (part false)))
              (grows_done w i m (part false) [] at (sym (append-nil (member_notes m))))
              m.came.ballots (k.each i m at).came)
              (k.each i m at).signers
              (λ v h. absurd (false≢true h));
        }

    by_end : (b : Bool)
        → IsTurn r script w i m (cond b whole (part (nat_lt 2 a && (nat_lt 0 c || (x == 1)))))
    by_end true = record {
      turns = step_turns r script w cluster k i m at e whole joined;
      kept = world_noted r script w cluster k i m at e whole joined (inr refl)
          (λ v h. sends_voted i v r i (state_of m)
          (with_notes (taken r (signed w) (state_of m) e) notes) e notes h);
    }
    by_end false = by_stay (nat_lt 2 a && (nat_lt 0 c || (x == 1)))

-- a start
world_start : (r : Rules) (script : List Line) (w : World) (i : ℕ) (m : Member)
    → IsWorldKept r script w → slice_get w.members i ≡ Some (Some m)
    → IsTurn r script w i m (start r i m.frames)
world_start r script w i m k at =
    let t = nothing_new r w i m (start r i m.frames) refl in
    record {
      turns = t;
      kept =
          world_done r script w i m (start r i m.frames) t k at tt tt
          (λ v h. start_voted i v r i m.frames h);
    }

-- ---- a line, a script

-- a faulty member's messages
world_faulty : (r : Rules) (script : List Line) (w : World) (a : ℕ) (outs : List Out)
    → IsWorldKept r script w → list_any (faults a) script ≡ true
    → IsWorldKept r script (with_sends w a outs)
world_faulty r script w a outs k f = record {
  total = k.total;
  few = k.few;
  named = k.named;
  each =
      λ j m h. record {
        notes = (k.each j m h).notes;
        came = (k.each j m h).came;
        signers =
            signs_more r (signed w) (signed (with_sends w a outs)) (signed_sends w a outs)
            m.came.ballots (k.each j m h).signers;
        sent = λ v s. by_sent j m h v (any_cases (is_sent_vote j v) w.pool (sent_now w a outs) s);
      };
}
  where
    by_sent : (j : ℕ) (m : Member) → slice_get w.members j ≡ Some (Some m) → (v : Vote)
        → (list_any (is_sent_vote j v) w.pool ≡ true)
        ⊎ (list_any (is_sent_vote j v) (sent_now w a outs) ≡ true)
        → has_vote (member_notes m) v ≡ true
    by_sent j m h v (inl s) = (k.each j m h).sent v s
    by_sent j m h v (inr s) =
        absurd
        (k.named j
        (subst (λ x. list_any (faults x) script ≡ true)
        (sent_other (length w.pool) a j v outs s) f)
        m h)

-- what a member's turn makes of a kept world
pub turned_kept : (r : Rules) (script : List Line) (w : World) (i : ℕ) (line : Line) (m : Member)
    (done : Stepped)
    → IsCluster r script → IsWorldKept r script w → slice_get w.members i ≡ Some (Some m)
    → turned r w i line m ≡ Some done → IsTurn r script w i m done
turned_kept r script w i (Do j ask) m done c k at h = by_live m.live h
  where
    by_event : (o : Option Event) → option_map (step r i (signed w) m) o ≡ Some done
        → IsTurn r script w i m done
    by_event None h = cc
    by_event (Some e) h =
        subst (IsTurn r script w i m) (same_Some (step r i (signed w) m e) done h)
        (world_step r script w i m e c k at)

    by_live : (b : Bool)
        → cond b (option_map (step r i (signed w) m) (event_of w i ask)) None ≡ Some done
        → IsTurn r script w i m done
    by_live true h = by_event (event_of w i ask) h
    by_live false h = cc
turned_kept r script w i (Cut a b x j ask) m done c k at h = by_live m.live h
  where
    by_event : (o : Option Event) → option_map (cut_step r i (signed w) m a b x) o ≡ Some done
        → IsTurn r script w i m done
    by_event None h = cc
    by_event (Some e) h =
        subst (IsTurn r script w i m) (same_Some (cut_step r i (signed w) m a b x e) done h)
        (world_cut r script w i m a b x e c k at)

    by_live : (l : Bool)
        → cond l (option_map (cut_step r i (signed w) m a b x) (event_of w i ask)) None ≡ Some done
        → IsTurn r script w i m done
    by_live true h = by_event (event_of w i ask) h
    by_live false h = cc
turned_kept r script w i (Restart j) m done c k at h = by_live m.live h
  where
    by_live : (b : Bool) → cond b None (Some (start r i m.frames)) ≡ Some done
        → IsTurn r script w i m done
    by_live true h = cc
    by_live false h =
        subst (IsTurn r script w i m) (same_Some (start r i m.frames) done h)
        (world_start r script w i m k at)
turned_kept r script w i (Faulty j fault) m done c k at h = cc

done_kept : (r : Rules) (script : List Line) (w : World) (line : Line) → IsCluster r script
    → IsWorldKept r script w → (o : Option Stepped) → done_by r w line ≡ o
    → IsWorldKept r script (option_map_or (with_done w (line_member line)) o w)
done_kept r script w line c k None e = k
done_kept r script w line c k (Some done) e =
    let (m, at, t) =
    and_then_some (turned r w (line_member line) line) (member_at w (line_member line)) done
    e in
    (turned_kept r script w (line_member line) line m done c k
    (member_there w (line_member line) m at) t).kept

-- a line that makes nobody faulty whom the script doesn't
abbrev pub IsOf : List Line → Line → Type 0
IsOf script line = (i : ℕ) → faults i line ≡ true → list_any (faults i) script ≡ true

pub line_kept : (r : Rules) (script : List Line) (w : World) (line : Line) → IsCluster r script
    → IsWorldKept r script w → IsOf script line → IsWorldKept r script (happens r w line)
line_kept r script w (Faulty a fault) c k o =
    world_faulty r script w a (fault_sends r w a fault) k (o a (eq-eqb a a refl))
line_kept r script w (Do i ask) c k o =
    done_kept r script w (Do i ask) c k (done_by r w (Do i ask)) refl
line_kept r script w (Cut a b x i ask) c k o =
    done_kept r script w (Cut a b x i ask) c k (done_by r w (Cut a b x i ask)) refl
line_kept r script w (Restart i) c k o =
    done_kept r script w (Restart i) c k (done_by r w (Restart i)) refl

run_kept : (r : Rules) (script : List Line) (w : World) (lines : List Line) → IsCluster r script
    → IsWorldKept r script w → AllByRecursion (IsOf script) lines
    → IsWorldKept r script (run r w lines)
run_kept r script w [] c k a = k
run_kept r script w (line ∷ lines) c k a =
    run_kept r script (happens r w line) lines c (line_kept r script w line c k a.0) a.1

-- the lines of a front are of the script
pub front_of : (script before rest : List Line) → script ≡ before ++ rest
    → AllByRecursion (IsOf script) before
front_of script before rest e = from [] before e
  where
    from : (done more : List Line) → script ≡ done ++ (more ++ rest)
        → AllByRecursion (IsOf script) more
    from done [] e = tt
    from done (line ∷ more) e = (
      (λ i h. subst (λ s. list_any (faults i) s ≡ true) (sym e)
          (list_any-append (faults i) done (line ∷ (more ++ rest))
          ∙ or_right (list_any (faults i) done) _ (or_left (faults i line) _ h))),
      from (done ++ line ∷ []) more (e ∙ sym (append_assoc done (line ∷ []) (more ++ rest))),
    )

-- ---- the opening

pub opening_kept : (r : Rules) (script : List Line) → IsCluster r script
    → IsWorldKept r script (opening r script)
opening_kept r script c = record {
  total =
      length-mapped (option_map member_notes) (opening r script).members
      ∙ (length-mapped start_of (range_with_len 0 r.epochs.total)
      ∙ length-range_with_len 0 r.epochs.total);
  few =
      λ epoch.
      omega (
        arith,
        c.few epoch,
        count_more (is_faulty_at (members_of (opening r script)))
            (λ i. list_any (faults i) script) by_faulty (members_in r.epochs epoch),
      );
  named =
      λ i f m h. by_named i f m
      (get-map_from start_of (range_with_len 0 r.epochs.total) i (Some m) h);
  each =
      λ i m h. by_each i m (get-map_from start_of (range_with_len 0 r.epochs.total) i (Some m) h);
}
  where
    start_of : ℕ → Option Member
    start_of i = cond (list_any (faults i) script) None (Some (start r i []).member)

    -- who is faulty there is made faulty by the script
    by_faulty : (i : ℕ) → is_faulty_at (members_of (opening r script)) i ≡ true
        → list_any (faults i) script ≡ true
    by_faulty i h = by_option (slice_get (members_of (opening r script)) i) refl h
      where
        by_fault : (b : Bool) → (k : ℕ) → i ≡ k → list_any (faults k) script ≡ b
            → option_map member_notes (cond b None (Some (start r k []).member)) ≡ None
            → list_any (faults i) script ≡ true
        by_fault true k same e f = subst (λ x. list_any (faults x) script ≡ true) (sym same) e
        by_fault false k same e f = cc

        by_start : ((o : Option Member) × (slice_get (opening r script).members i ≡ Some o)
            × (option_map member_notes o ≡ None))
            → list_any (faults i) script ≡ true
        by_start (o, at, f) =
            by_range (get-map_from start_of (range_with_len 0 r.epochs.total) i o at)
          where
            by_range : ((k : ℕ) × (slice_get (range_with_len 0 r.epochs.total) i ≡ Some k)
                × (start_of k ≡ o))
                → list_any (faults i) script ≡ true
            by_range (k, there, e) =
                by_fault (list_any (faults k) script) k
                (omega (arith, get-range 0 r.epochs.total i k there)) refl
                (ap (option_map member_notes) e ∙ f)

        by_option : (o : Option (Option (List Note)))
            → slice_get (members_of (opening r script)) i ≡ o → option_map_or is_none o false ≡ true
            → list_any (faults i) script ≡ true
        by_option None e h = absurd (false≢true h)
        by_option (Some None) e h =
            by_start (get-map_from (option_map member_notes) (opening r script).members i None e)
        by_option (Some (Some ns)) e h = absurd (false≢true h)

    by_named : (i : ℕ) → list_any (faults i) script ≡ true → (m : Member)
        → ((k : ℕ) × (slice_get (range_with_len 0 r.epochs.total) i ≡ Some k)
        × (start_of k ≡ Some m))
        → ⊥
    by_named i f m (k, at, e) =
        let same : i ≡ k = omega (arith, get-range 0 r.epochs.total i k at) in
        cc
        (cond-true (list_any (faults k) script) None (Some (start r k []).member)
        (subst (λ x. list_any (faults x) script ≡ true) same f))

    by_each : (i : ℕ) (m : Member)
        → ((k : ℕ) × (slice_get (range_with_len 0 r.epochs.total) i ≡ Some k)
        × (start_of k ≡ Some m))
        → IsMemberKept r (opening r script) i m
    by_each i m (k, at, e) = by_start (list_any (faults k) script) e
      where
        by_start : (b : Bool) → cond b None (Some (start r k []).member) ≡ Some m
            → IsMemberKept r (opening r script) i m
        by_start true e = cc
        by_start false e =
            let s : (start r k []).member ≡ m = cc in
            subst (IsMemberKept r (opening r script) i) s (record {
              notes = tt;
              came = tt;
              signers = tt;
              sent = λ v h. absurd (false≢true h);
            })

-- ---- the law

pub reached_kept : (r : Rules) (script : List Line) (w : World) → IsCluster r script
    → Reaches r script w → IsWorldKept r script w
reached_kept r script w c (before, rest, joined, e) =
    subst (IsWorldKept r script) (sym e)
    (run_kept r script (opening r script) before c (opening_kept r script c)
    (front_of script before rest joined))

-- in every world that a script reaches, each honest member's notes keep
pub reached_keep : (r : Rules) (script : List Line) (w : World) → IsCluster r script
    → Reaches r script w → AllKeep r (members_of w)
reached_keep r script w c reach = kept_keep r script w (reached_kept r script w c reach)

-- every world that a script reaches is lawful
pub reached_lawful : (r : Rules) (script : List Line) (w : World) → IsCluster r script
    → Reaches r script w → AreLawful r.epochs (block_fits r) (members_of w)
reached_lawful r script w c reach = kept_lawful r script w c (reached_kept r script w c reach)

-- what a quorum of its epoch's members signed stands, whether it was ever sent or noted or not
pub valid_stands : (r : Rules) (script : List Line) (w : World) → IsCluster r script
    → Reaches r script w → (s : Cert) → IsTrue (is_valid r (signed w) s)
    → Stands r.epochs (members_of w) s.vote
valid_stands r script w c reach s h =
    holds_stands r.epochs (members_of w) s.vote
    (valid_holds (meaning r.epochs (members_of w)) r (signed w)
    (meaning_closed r (members_of w) c.rising)
    (signed_backs r script w c (reached_kept r script w c reach)) s h)
