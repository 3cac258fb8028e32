-- What a live member noted was sent, and what it misses was asked for.
use Rattle.std.proofs.Common.{◌≡◌, ℕ, zero, suc, ◌≤◌, Bool, true, false, ◌||◌, not, cond, nat_lt, List, [], ◌∷◌, ◌++◌, Option, Some, None, filter, filter_map, flat_map, map, option_and_then, slice_get, unwrap_or, refl, sym, ◌∙◌, ap, subst, inl, inr, ◌⊎◌, arith, append_assoc, append-nil}
use Rattle.std.specs.List.{last_or, list_any}
use Rattle.std.specs.Option.{option_map_or}
use Rattle.std.proofs.lemmas.Bool.{cases_Bool, cond-true, cond-false, false≢true, lt-ltb, ltb-true, or_cases}
use Rattle.std.proofs.lemmas.Option.{same_Some}
use Rattle.cw_types.specs.declared.commitment.Commitment.{Commitment}
use Rattle.cw_types.specs.declared.event.Event.{Event}
use Rattle.cw_types.specs.declared.event.Handed.{Handed}
use Rattle.cw_types.specs.declared.message.Message.{Message}
use Rattle.cw_types.specs.declared.note.Note.{Note}
use Rattle.cw_types.specs.declared.vote.Vote.{Vote}
use Rattle.cw_types.specs.Block.{Block}
use Rattle.cw_types.specs.Same.{same_commitment}
use Rattle.cw_types.proofs.Same.{same_commitment-true}
use Rattle.cw_rules.specs.Accepted.{State}
use Rattle.cw_rules.specs.Held.{held, next}
use Rattle.cw_rules.specs.Notes.{has_block}
use Rattle.cw_rules.specs.Reached.{In, IsCluster, Reaches}
use Rattle.cw_rules.specs.Rules.{Rules, genesis_commitment}
use Rattle.cw_rules.specs.Sends.{leads, missing, note_sends, once, to_all}
use Rattle.cw_rules.specs.Step.{Member, add_frame, deliveries, deliveries_within, delivery, member_notes, most_delivered, nothing_came, start, state_of, step, step_notes, taken, with_given, with_handed, with_notes}
use Rattle.cw_rules.specs.World.{Line, World, member_at, signed, with_done}
use Rattle.cw_rules.proofs.Deliveries.{delivery_is, next_given}
use Rattle.cw_rules.proofs.Lists.{and_then_some, in_cases, in_left, in_right}
use Rattle.cw_rules.proofs.Worlds.{frames_join, member_there}
use Rattle.cw_progress.specs.Sent.{IsSent}
use Rattle.cw_progress.proofs.Carries.{AnyLine, Carries, Extends, Turning, any_lines, extends_done, reached_all}
use Rattle.cw_progress.proofs.Outs.{filter_from, filter_in_list, in_flat, in_map, mapped_from, mapped_in, sends_asks, sends_notes, sent_done, sent_stays}

-- ---- votes and certificates

-- what a note sends to all
abbrev pub says : ℕ → Note → Option Message
says i (Note.Vote v) = Some (Message.Vote i v)
says i (Note.Cert s) = Some (Message.Cert s)
says i _ = None

says_sent : (r : Rules) (i : ℕ) (all : List Note) (n : Note) (x : Message) → says i n ≡ Some x
    → In (to_all x) (note_sends r i all n)
says_sent r i all (Note.Vote v) x e =
    inl (ap to_all (sym (same_Some (Message.Vote i v) x e)))
says_sent r i all (Note.Cert s) x e = inl (ap to_all (sym (same_Some (Message.Cert s) x e)))
says_sent r i all (Note.Verified epoch view c) x e = cc
says_sent r i all (Note.Block c b) x e = cc
says_sent r i all (Note.Certified p) x e = cc
says_sent r i all (Note.Ack h) x e = cc
says_sent r i all (Note.Floor h) x e = cc
says_sent r i all (Note.Prune h) x e = cc
says_sent r i all (Note.Epoch epoch c) x e = cc

-- the notes of the last frame
abbrev last_frame : List (List Note) → List Note
last_frame frames = unwrap_or (last_or None frames) []

last_is : (o : Option (List Note)) (frames : List (List Note)) (frame : List Note)
    → last_or o (frames ++ frame ∷ []) ≡ Some frame
last_is o [] frame = refl
last_is o (f ∷ fs) frame = last_is (Some f) fs frame

new_last : (frames : List (List Note)) (notes : List Note) (n : Note) → In n notes
    → In n (last_frame (add_frame frames notes))
new_last frames [] n h = absurd h
new_last frames (x ∷ xs) n h =
    subst (λ o. In n (unwrap_or o [])) (sym (last_is None frames (x ∷ xs))) h

-- each vote and certificate that a member noted was sent, but for those of the last frame while it
-- is stopped
abbrev AreSaid : World → ℕ → Member → Type 0
AreSaid w i m =
    (n : Note) (x : Message) → says i n ≡ Some x → In n (member_notes m)
    → IsSent w i (to_all x) ⊎ ((m.live ≡ false) × In n (last_frame m.frames))

-- a live member's were
said_live : (w : World) (i : ℕ) (m : Member) → AreSaid w i m → m.live ≡ true → (n : Note)
    → (x : Message)
    → says i n ≡ Some x → In n (member_notes m) → IsSent w i (to_all x)
said_live w i m all live n x e h = go (all n x e h)
  where
    go : IsSent w i (to_all x) ⊎ ((m.live ≡ false) × In n (last_frame m.frames))
        → IsSent w i (to_all x)
    go (inl s) = s
    go (inr p) = absurd (false≢true (sym p.0 ∙ live))

module _ (r : Rules) (script : List Line) where
  said_stays : (w v : World) (i : ℕ) (m : Member) → Extends w v → AreSaid w i m → AreSaid v i m
  said_stays w v i m x all n y e h = go (all n y e h)
    where
      go : IsSent w i (to_all y) ⊎ ((m.live ≡ false) × In n (last_frame m.frames))
          → IsSent v i (to_all y) ⊎ ((m.live ≡ false) × In n (last_frame m.frames))
      go (inl s) = inl (sent_stays w v i (to_all y) x s)
      go (inr p) = inr p

  said_stepped : (w : World) (i : ℕ) (m : Member) (e : Event) → Turning r script AnyLine w i m e
      → AreSaid w i m
      → AreSaid (with_done w i (step r i (signed w) m e)) i (step r i (signed w) m e).member
  said_stepped w i m e t all n x is h =
      go (in_cases n (member_notes m) notes (subst (In n) (frames_join m.frames notes) h))
    where
      during : State
      during = taken r (signed w) (state_of m) e

      notes : List Note
      notes = step_notes r i during e

      go : In n (member_notes m) ⊎ In n notes
          → IsSent (with_done w i (step r i (signed w) m e)) i (to_all x)
          ⊎ ((true ≡ false)
          × In n (last_frame (step r i (signed w) m e).member.frames))
      go (inl a) =
          inl
          (sent_stays w (with_done w i (step r i (signed w) m e)) i (to_all x)
          (extends_done w i m (step r i (signed w) m e) t.at)
          (said_live w i m all t.live n x is a))
      go (inr b) =
          inl
          (sent_done w i (step r i (signed w) m e) (to_all x)
          (sends_notes r i (state_of m) (with_notes during notes) e notes (to_all x)
          (in_flat (note_sends r i (member_notes m ++ notes)) notes n (to_all x) b
          (says_sent r i (member_notes m ++ notes) n x is))))

  said_kept : (w : World) (i : ℕ) (m : Member) (e : Event) → Turning r script AnyLine w i m e
      → AreSaid w i m
      → (n : Note) (x : Message) → says i n ≡ Some x
      → In n (member_notes (step r i (signed w) m e).member)
      → IsSent w i (to_all x)
      ⊎ ((false ≡ false) × In n (last_frame (step r i (signed w) m e).member.frames))
  said_kept w i m e t all n x is h =
      go (in_cases n (member_notes m) notes (subst (In n) (frames_join m.frames notes) h))
    where
      notes : List Note
      notes = step_notes r i (taken r (signed w) (state_of m) e) e

      go : In n (member_notes m) ⊎ In n notes
          → IsSent w i (to_all x)
          ⊎ ((false ≡ false) × In n (last_frame (add_frame m.frames notes)))
      go (inl a) = inl (said_live w i m all t.live n x is a)
      go (inr b) = inr (refl, new_last m.frames notes n b)

  said_started : (w : World) (i : ℕ) (m : Member) → slice_get w.members i ≡ Some (Some m)
      → AreSaid w i m
      → AreSaid (with_done w i (start r i m.frames)) i (start r i m.frames).member
  said_started w i m at all n x is h = go (all n x is h)
    where
      go : IsSent w i (to_all x) ⊎ ((m.live ≡ false) × In n (last_frame m.frames))
          → IsSent (with_done w i (start r i m.frames)) i (to_all x)
          ⊎ ((true ≡ false) × In n (last_frame m.frames))
      go (inl s) =
          inl
          (sent_stays w (with_done w i (start r i m.frames)) i (to_all x)
          (extends_done w i m (start r i m.frames) at) s)
      go (inr p) =
          inl
          (sent_done w i (start r i m.frames) (to_all x)
          (in_left (to_all x)
          (flat_map (note_sends r i (member_notes m)) (last_frame m.frames))
          (map (λ c. to_all (Message.Ask i c))
          (missing r (record {
            notes = member_notes m;
            came = nothing_came;
            given = [];
          })))
          (in_flat (note_sends r i (member_notes m)) (last_frame m.frames) n (to_all x) p.1
          (says_sent r i (member_notes m) n x is))))

  said_carries : Carries r script AnyLine AreSaid
  said_carries = record {
    stays = said_stays;
    first = λ i n x is h. absurd h;
    stepped = said_stepped;
    halts = λ w i m all n x is h. halted w i m n x (all n x is h);
    kept = said_kept;
    started = λ w i m c at live all. said_started w i m at all;
  }
    where
      halted : (w : World) (i : ℕ) (m : Member) (n : Note) (x : Message)
          → IsSent w i (to_all x) ⊎ ((m.live ≡ false) × In n (last_frame m.frames))
          → IsSent w i (to_all x) ⊎ ((false ≡ false) × In n (last_frame m.frames))
      halted w i m n x (inl s) = inl s
      halted w i m n x (inr p) = inr (refl, p.1)

-- what a live member noted was sent
pub noted_sent : (r : Rules) (script : List Line) (w : World) → IsCluster r script
    → Reaches r script w → (i : ℕ) (m : Member) → member_at w i ≡ Some m → m.live ≡ true
    → (n : Note) (x : Message) → says i n ≡ Some x → In n (member_notes m)
    → IsSent w i (to_all x)
noted_sent r script w cluster reach i m at live =
    said_live w i m
    (reached_all r script AnyLine AreSaid (said_carries r script) w cluster (any_lines script)
    reach i m (member_there w i m at))
    live

-- ---- what is missing

-- what is led to above a height is led to above a lower one
leads_lower : (r : Rules) (notes : List Note) (low high : ℕ) (n : Note) (c : Commitment)
    → low ≤ high → leads r notes high n ≡ Some c → leads r notes low n ≡ Some c
leads_lower r notes low high (Note.Cert s) c le h = h
leads_lower r notes low high (Note.Block d b) c le h =
    let (a, e, f) =
    and_then_some
    (λ (a : Block). cond (nat_lt high a.height) (Some a.context.parent) None)
    (held r notes d) c h in
    go a e (cases_Bool (nat_lt high a.height)) f
  where
    go : (a : Block) → held r notes d ≡ Some a
        → (nat_lt high a.height ≡ true) ⊎ (nat_lt high a.height ≡ false)
        → cond (nat_lt high a.height) (Some a.context.parent) None ≡ Some c
        → option_and_then (λ (a : Block). cond (nat_lt low a.height) (Some a.context.parent) None)
        (held r notes d)
        ≡ Some c
    go a e (inl t) f =
        ap
        (option_and_then
        (λ (a : Block). cond (nat_lt low a.height) (Some a.context.parent) None)) e
        ∙ (cond-true (nat_lt low a.height) (Some a.context.parent) None
        (lt-ltb low a.height (omega (arith, le, ltb-true high a.height t)))
        ∙ (sym (cond-true (nat_lt high a.height) (Some a.context.parent) None t) ∙ f))
    go a e (inr n) f = cc (cond-false (nat_lt high a.height) (Some a.context.parent) None n)
leads_lower r notes low high (Note.Vote v) c le h = h
leads_lower r notes low high (Note.Verified epoch view d) c le h = h
leads_lower r notes low high (Note.Certified p) c le h = h
leads_lower r notes low high (Note.Ack x) c le h = h
leads_lower r notes low high (Note.Floor x) c le h = h
leads_lower r notes low high (Note.Prune x) c le h = h
leads_lower r notes low high (Note.Epoch epoch d) c le h = h

-- what stands once in order is in the list, and not among those seen
pub once_from : (seen cs : List Commitment) (c : Commitment) → In c (once seen cs)
    → In c cs × (list_any (same_commitment c) seen ≡ false)
once_from seen [] c h = absurd h
once_from seen (d ∷ ds) c h =
    go (cases_Bool (list_any (same_commitment d) seen)) (once_from seen ds c)
    (once_from (d ∷ seen) ds c)
  where
    unseen : list_any (same_commitment c) (d ∷ seen) ≡ false
        → list_any (same_commitment c) seen ≡ false
    unseen e = by_or (same_commitment c d) e
      where
        by_or : (b : Bool) → (b || list_any (same_commitment c) seen) ≡ false
            → list_any (same_commitment c) seen ≡ false
        by_or true e = cc
        by_or false e = e

    by_place : list_any (same_commitment d) seen ≡ false → (c ≡ d) ⊎ In c (once (d ∷ seen) ds)
        → (In c (once (d ∷ seen) ds)
        → In c ds × (list_any (same_commitment c) (d ∷ seen) ≡ false))
        → In c (d ∷ ds) × (list_any (same_commitment c) seen ≡ false)
    by_place e (inl s) later =
        (inl s, ap (λ x. list_any (same_commitment x) seen) s ∙ e)
    by_place e (inr h) later = let p = later h in (inr p.0, unseen p.1)

    go : (list_any (same_commitment d) seen ≡ true) ⊎ (list_any (same_commitment d) seen ≡ false)
        → (In c (once seen ds) → In c ds × (list_any (same_commitment c) seen ≡ false))
        → (In c (once (d ∷ seen) ds)
        → In c ds × (list_any (same_commitment c) (d ∷ seen) ≡ false))
        → In c (d ∷ ds) × (list_any (same_commitment c) seen ≡ false)
    go (inl t) same more =
        let p =
        same
        (subst (In c)
        (cond-true (list_any (same_commitment d) seen) (once seen ds)
        (d ∷ once (d ∷ seen) ds) t)
        h) in
        (inr p.0, p.1)
    go (inr f) same more =
        by_place f
        (subst (In c)
        (cond-false (list_any (same_commitment d) seen) (once seen ds)
        (d ∷ once (d ∷ seen) ds) f)
        h)
        more

pub in_once : (seen cs : List Commitment) (c : Commitment) → In c cs
    → list_any (same_commitment c) seen ≡ false → In c (once seen cs)
in_once seen [] c h e = absurd h
in_once seen (d ∷ ds) c h e =
    go (cases_Bool (list_any (same_commitment d) seen)) h (λ a. in_once seen ds c a e)
    (λ a f. in_once (d ∷ seen) ds c a f)
  where
    here : list_any (same_commitment d) seen ≡ false → In c (d ∷ once (d ∷ seen) ds)
        → In c (once seen (d ∷ ds))
    here f =
        subst (In c)
        (sym
        (cond-false (list_any (same_commitment d) seen) (once seen ds)
        (d ∷ once (d ∷ seen) ds) f))

    by_head : list_any (same_commitment d) seen ≡ false
        → (same_commitment c d ≡ true) ⊎ (same_commitment c d ≡ false) → In c ds
        → (In c ds → list_any (same_commitment c) (d ∷ seen) ≡ false
        → In c (once (d ∷ seen) ds))
        → In c (once seen (d ∷ ds))
    by_head f (inl t) a more = here f (inl (same_commitment-true c d t))
    by_head f (inr n) a more =
        here f (inr (more a (ap (λ b. b || list_any (same_commitment c) seen) n ∙ e)))

    go : (list_any (same_commitment d) seen ≡ true) ⊎ (list_any (same_commitment d) seen ≡ false)
        → In c (d ∷ ds) → (In c ds → In c (once seen ds))
        → (In c ds → list_any (same_commitment c) (d ∷ seen) ≡ false
        → In c (once (d ∷ seen) ds))
        → In c (once seen (d ∷ ds))
    go (inl t) (inl s) same more =
        absurd (false≢true (sym e ∙ (ap (λ x. list_any (same_commitment x) seen) s ∙ t)))
    go (inl t) (inr a) same more =
        subst (In c)
        (sym
        (cond-true (list_any (same_commitment d) seen) (once seen ds)
        (d ∷ once (d ∷ seen) ds) t))
        (same a)
    go (inr f) (inl s) same more = here f (inl s)
    go (inr f) (inr a) same more = by_head f (cases_Bool (same_commitment c d)) a more

-- what is missing above a height is missing above a lower one
missing_lower : (r : Rules) (s t : State) → s.notes ≡ t.notes → next s ≤ next t → (c : Commitment)
    → In c (missing r t) → In c (missing r s)
missing_lower r s t same le c h =
    let a =
    filter_from (λ c. not (has_block t.notes c))
    (once (genesis_commitment r ∷ []) (filter_map (leads r t.notes (next t)) t.notes)) c h in
    let b =
    once_from (genesis_commitment r ∷ []) (filter_map (leads r t.notes (next t)) t.notes) c
    a.0 in
    let (n, at, e) = mapped_from (leads r t.notes (next t)) t.notes c b.0 in
    subst (λ ns. In c
    (filter (λ c. not (has_block ns c))
    (once (genesis_commitment r ∷ []) (filter_map (leads r ns (next s)) ns))))
    (sym same)
    (filter_in_list (λ c. not (has_block t.notes c))
    (once (genesis_commitment r ∷ []) (filter_map (leads r t.notes (next s)) t.notes)) c
    (in_once (genesis_commitment r ∷ []) (filter_map (leads r t.notes (next s)) t.notes) c
    (mapped_in (leads r t.notes (next s)) t.notes n c at
    (leads_lower r t.notes (next s) (next t) n c le e))
    b.1)
    a.1)

-- deliveries only raise the next height
next_within : (r : Rules) (steps : ℕ) (s : State)
    → next s ≤ next (with_handed s (deliveries_within r steps s))
next_within r zero s = subst (λ xs. next s ≤ next (record {
  notes = s.notes;
  came = s.came;
  given = xs;
})) (sym (append-nil s.given)) (omega arith)
next_within r (suc steps) s = go (delivery r s) refl (λ h. next_within r steps (with_given s h))
  where
    go : (o : Option Handed) → delivery r s ≡ o
        → ((h : ℕ) → next (with_given s h)
        ≤ next (with_handed (with_given s h) (deliveries_within r steps (with_given s h))))
        → next s
        ≤ next
        (with_handed s
        (option_map_or (λ h. h ∷ deliveries_within r steps (with_given s h.height)) o []))
    go None e later = subst (λ xs. next s ≤ next (record {
      notes = s.notes;
      came = s.came;
      given = xs;
    })) (sym (append-nil s.given)) (omega arith)
    go (Some h) e later =
        subst (λ xs. next s ≤ next (record { notes = s.notes; came = s.came; given = xs }))
        (append_assoc s.given (h.height ∷ [])
        (map (λ (x : Handed). x.height) (deliveries_within r steps (with_given s h.height))))
        (omega (
          arith,
          (delivery_is r s h e).1,
          next_given r s h.height,
          later h.height,
        ))

-- what a live member misses it asked for
abbrev AreAsked : Rules → World → ℕ → Member → Type 0
AreAsked r w i m =
    m.live ≡ true → (c : Commitment) → In c (missing r (state_of m))
    → IsSent w i (to_all (Message.Ask i c))

-- a commitment that isn't among some is found by no test for it
is_among : (c : Commitment) (cs : List Commitment) → list_any (same_commitment c) cs ≡ true
    → In c cs
is_among c [] h = absurd (false≢true h)
is_among c (d ∷ ds) h =
    go (or_cases (same_commitment c d) (list_any (same_commitment c) ds) h) (is_among c ds)
  where
    go : (same_commitment c d ≡ true) ⊎ (list_any (same_commitment c) ds ≡ true)
        → (list_any (same_commitment c) ds ≡ true → In c ds) → In c (d ∷ ds)
    go (inl e) later = inl (same_commitment-true c d e)
    go (inr e) later = inr (later e)

-- what is missing after a step was so before, or the step asks for it
pub step_asks : (r : Rules) (i : ℕ) (sign : ℕ → Vote → Bool) (m : Member) (e : Event)
    (c : Commitment)
    → In c (missing r (state_of (step r i sign m e).member))
    → In c (missing r (state_of m)) ⊎ In (to_all (Message.Ask i c)) (step r i sign m e).sent
step_asks r i sign m e c h =
    go (cases_Bool (list_any (same_commitment c) (missing r (state_of m))))
  where
    during : State
    during = taken r sign (state_of m) e

    notes : List Note
    notes = step_notes r i during e

    after : State
    after = with_notes during notes

    there : In c (missing r after)
    there =
        missing_lower r after (state_of (step r i sign m e).member)
        (sym (frames_join m.frames notes))
        (subst (λ ns. next after ≤ next (record {
          notes = ns;
          came = during.came;
          given = m.given ++ map (λ (h : Handed). h.height) (deliveries r after);
        })) (sym (frames_join m.frames notes))
        (next_within r (most_delivered r after) after))
        c h

    go : (list_any (same_commitment c) (missing r (state_of m)) ≡ true)
        ⊎ (list_any (same_commitment c) (missing r (state_of m)) ≡ false)
        → In c (missing r (state_of m)) ⊎ In (to_all (Message.Ask i c)) (step r i sign m e).sent
    go (inl y) = inl (is_among c (missing r (state_of m)) y)
    go (inr n) =
        inr
        (sends_asks r i (state_of m) after e notes (to_all (Message.Ask i c))
        (in_map (λ c. to_all (Message.Ask i c))
        (filter (λ c. not (list_any (same_commitment c) (missing r (state_of m))))
        (missing r after))
        c
        (filter_in_list
        (λ c. not (list_any (same_commitment c) (missing r (state_of m))))
        (missing r after) c there (ap not n))))

-- a start asks for all that is missing
pub start_asks : (r : Rules) (i : ℕ) (frames : List (List Note)) (c : Commitment)
    → In c (missing r (state_of (start r i frames).member))
    → In (to_all (Message.Ask i c)) (start r i frames).sent
start_asks r i frames c h =
    in_right (to_all (Message.Ask i c))
    (flat_map (note_sends r i fresh.notes) (last_frame frames))
    (map (λ c. to_all (Message.Ask i c)) (missing r fresh))
    (in_map (λ c. to_all (Message.Ask i c)) (missing r fresh) c
    (missing_lower r fresh (state_of (start r i frames).member) refl
    (next_within r (most_delivered r fresh) fresh) c h))
  where
    fresh : State
    fresh =
        record { notes = flat_map (λ frame. frame) frames; came = nothing_came; given = [] }

module _ (r : Rules) (script : List Line) where
  asked_stepped : (w : World) (i : ℕ) (m : Member) (e : Event) → Turning r script AnyLine w i m e
      → AreAsked r w i m
      → AreAsked r (with_done w i (step r i (signed w) m e)) i (step r i (signed w) m e).member
  asked_stepped w i m e t all live c h = go (step_asks r i (signed w) m e c h)
    where
      go : In c (missing r (state_of m))
          ⊎ In (to_all (Message.Ask i c)) (step r i (signed w) m e).sent
          → IsSent (with_done w i (step r i (signed w) m e)) i (to_all (Message.Ask i c))
      go (inl y) =
          sent_stays w (with_done w i (step r i (signed w) m e)) i (to_all (Message.Ask i c))
          (extends_done w i m (step r i (signed w) m e) t.at) (all t.live c y)
      go (inr y) = sent_done w i (step r i (signed w) m e) (to_all (Message.Ask i c)) y

  asked_started : (w : World) (i : ℕ) (m : Member)
      → AreAsked r (with_done w i (start r i m.frames)) i (start r i m.frames).member
  asked_started w i m live c h =
      sent_done w i (start r i m.frames) (to_all (Message.Ask i c))
      (start_asks r i m.frames c h)

  asked_carries : Carries r script AnyLine (AreAsked r)
  asked_carries = record {
    stays =
        λ w v i m x all live c h. sent_stays w v i (to_all (Message.Ask i c)) x (all live c h);
    first = λ i live c h. absurd h;
    stepped = asked_stepped;
    halts = λ w i m all live. absurd (false≢true live);
    kept = λ w i m e t all live. absurd (false≢true live);
    started = λ w i m c at live all. asked_started w i m;
  }

pub missing_asked : (r : Rules) (script : List Line) (w : World) → IsCluster r script
    → Reaches r script w → (i : ℕ) (m : Member) → member_at w i ≡ Some m → m.live ≡ true
    → (c : Commitment) → In c (missing r (state_of m)) → IsSent w i (to_all (Message.Ask i c))
missing_asked r script w cluster reach i m at =
    reached_all r script AnyLine (AreAsked r) (asked_carries r script) w cluster
    (any_lines script) reach i m (member_there w i m at)
