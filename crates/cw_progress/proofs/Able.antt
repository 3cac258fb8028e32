-- Where nothing was let go and no height was given up, the cluster can go on.
use Rattle.std.proofs.Common.{◌≡◌, ℕ, suc, ◌+◌, ◌*◌, Bool, true, ◌||◌, ◌==◌, not, nat_le, List, [], ◌∷◌, ◌++◌, Option, Some, None, filter_map, option_map, slice_get, refl, sym, ◌∙◌, ap, subst, inl, inr, ◌⊎◌, arith}
use Rattle.std.specs.List.{AllByRecursion, enumerate_from, list_all}
use Rattle.std.specs.Option.{option_map_or}
use Rattle.std.proofs.lemmas.Bool.{and_from, false≢true, le-leb, or_right}
use Rattle.std.proofs.lemmas.Option.{same_Some}
use Rattle.cw_types.specs.declared.commitment.Commitment.{Commitment}
use Rattle.cw_types.specs.declared.event.Event.{Event}
use Rattle.cw_types.specs.declared.note.Note.{Note}
use Rattle.cw_types.specs.declared.vote.Cert.{Cert}
use Rattle.cw_types.specs.declared.vote.Proposal.{Proposal}
use Rattle.cw_types.specs.Epochs.{is_member}
use Rattle.cw_types.specs.Votes.{finalized}
use Rattle.cw_rules.specs.Accepted.{Many}
use Rattle.cw_rules.specs.Held.{floor_height, greatest_floor, greatest_prune, pruned_height, resume}
use Rattle.cw_rules.specs.Notes.{epoch_of, greatest}
use Rattle.cw_rules.specs.Reached.{In, IsCluster, Reaches}
use Rattle.cw_rules.specs.Rules.{Rules}
use Rattle.cw_rules.specs.Stands.{EachAfter}
use Rattle.cw_rules.specs.Step.{Member, member_notes, state_of, step, step_notes, taken}
use Rattle.cw_rules.specs.World.{Ask, Cut, Do, Faulty, Line, Restart, World, event_of, message_for, signed}
use Rattle.cw_rules.proofs.Lists.{map_some}
use Rattle.cw_rules.proofs.StepKeeps.{each_append}
use Rattle.cw_rules.proofs.Worlds.{frames_join}
use Rattle.cw_progress.specs.Going.{can_enter, is_able, is_stocked, keeps_all, newest_epoch, numbered_members}
use Rattle.cw_progress.proofs.Carries.{Carries, Turning, line_ask, reached_all}
use Rattle.cw_progress.proofs.Outs.{mapped_from}
use Rattle.cw_progress.proofs.Rests.{step_each}
use Rattle.cw_progress.proofs.Taken.{wishes_taken}

-- a note that gives up no height and lets no block go
abbrev IsTame : List Note → Note → Type 0
IsTame before (Note.Prune h) = ⊥
IsTame before (Note.Floor h) = ⊥
IsTame before _ = Unit {0}

record AreTame (w : World) (i : ℕ) (m : Member) : Type 0 where
  pub notes : EachAfter IsTame [] (member_notes m)
  pub wishes : (c : Commitment) → In c m.came.wishes → ⊥

abbrev IsKind : Line → Type 0
IsKind line = keeps_all line ≡ true

module _ (r : Rules) (script : List Line) where
  -- such a line asks for neither
  by_ask : (w : World) (i : ℕ) (line : Line) (ask : Ask) (e : Event) → IsKind line
      → line_ask line ≡ Some ask → event_of w i ask ≡ Some e
      → ((h : ℕ) → e ≡ Event.Prune h → ⊥) × ((s : Cert) → e ≡ Event.Floor s → ⊥)
  by_ask w i line ask e kind asks is = go line kind asks
    where
      plain : (x : Ask) → event_of w i x ≡ Some e → keeps_all (Do i x) ≡ true
          → ((h : ℕ) → e ≡ Event.Prune h → ⊥) × ((s : Cert) → e ≡ Event.Floor s → ⊥)
      plain (Ask.Propose payload) f k =
          let one : Event.Propose payload ≡ e = same_Some (Event.Propose payload) e f in (
            (λ h g. let x : Event.Propose payload ≡ Event.Prune h = one ∙ g in cc),
            (λ s g. let x : Event.Propose payload ≡ Event.Floor s = one ∙ g in cc),
          )
      plain (Ask.Timeout view) f k =
          let one : Event.Timeout view ≡ e = same_Some (Event.Timeout view) e f in (
            (λ h g. let x : Event.Timeout view ≡ Event.Prune h = one ∙ g in cc),
            (λ s g. let x : Event.Timeout view ≡ Event.Floor s = one ∙ g in cc),
          )
      plain (Ask.Deliver number) f k =
          let (m, u, v) = map_some Event.Deliver (message_for w i number) e f in (
            (λ h g. let x : Event.Deliver m ≡ Event.Prune h = v ∙ g in cc),
            (λ s g. let x : Event.Deliver m ≡ Event.Floor s = v ∙ g in cc),
          )
      plain Ask.Ack f k =
          let one : Event.Ack ≡ e = same_Some Event.Ack e f in (
            (λ h g. let x : Event.Ack ≡ Event.Prune h = one ∙ g in cc),
            (λ s g. let x : Event.Ack ≡ Event.Floor s = one ∙ g in cc),
          )
      plain (Ask.Hint height) f k =
          let one : Event.Hint height ≡ e = same_Some (Event.Hint height) e f in (
            (λ h g. let x : Event.Hint height ≡ Event.Prune h = one ∙ g in cc),
            (λ s g. let x : Event.Hint height ≡ Event.Floor s = one ∙ g in cc),
          )
      plain (Ask.Prune height) f k = absurd (false≢true k)
      plain (Ask.Floor number) f k = absurd (false≢true k)

      go : (l : Line) → IsKind l → line_ask l ≡ Some ask
          → ((h : ℕ) → e ≡ Event.Prune h → ⊥) × ((s : Cert) → e ≡ Event.Floor s → ⊥)
      go (Do j x) k a =
          plain ask is
          (ap (λ y. keeps_all (Do i y)) (sym (same_Some x ask a)) ∙ k)
      go (Cut call cut fill j x) k a =
          plain ask is
          (ap (λ y. keeps_all (Do i y)) (sym (same_Some x ask a)) ∙ k)
      go (Restart j) k a = cc
      go (Faulty j fault) k a = cc

  tame_wishes : (w : World) (i : ℕ) (m : Member) (e : Event) → Turning r script IsKind w i m e
      → AreTame w i m → (c : Commitment)
      → In c (taken r (signed w) (state_of m) e).came.wishes → ⊥
  tame_wishes w i m e t p c h = go (wishes_taken r (signed w) m.came e c h)
    where
      go : In c m.came.wishes
          ⊎ ((s : Cert) × (q : Proposal) × (e ≡ Event.Floor s) × (finalized s.vote ≡ Some q)
          × (q.payload ≡ c) × In (Many s) (taken r (signed w) (state_of m) e).came.ballots)
          → ⊥
      go (inl a) = p.wishes c a
      go (inr (s, q, is, f, g, at)) = (by_ask w i t.line t.ask e t.fits t.asks t.event).1 s is

  tame_notes : (w : World) (i : ℕ) (m : Member) (e : Event) → Turning r script IsKind w i m e
      → AreTame w i m
      → EachAfter IsTame [] (member_notes (step r i (signed w) m e).member)
  tame_notes w i m e t p =
      let notes = step_notes r i (taken r (signed w) (state_of m) e) e in
      subst (EachAfter IsTame []) (sym (frames_join m.frames notes))
      (each_append IsTame [] (member_notes m) notes p.notes
      (step_each IsTame r i (taken r (signed w) (state_of m) e) e (record {
        of_block = λ ns c b. tt;
        of_verified = λ ns epoch view c. tt;
        of_notarize = λ ns q o. tt;
        of_finalize = λ ns q. tt;
        of_certified = λ ns q. tt;
        of_epoch = λ ns epoch c. tt;
        of_nullify = λ view is s. tt;
        of_ack = λ h s. tt;
        of_prune =
            λ h a is l o. (by_ask w i t.line t.ask e t.fits t.asks t.event).0 h is;
        of_cert = λ ns v signers h. tt;
        of_floor = λ ns c b at o n h. tame_wishes w i m e t p c at;
      })))

  tame_carries : Carries r script IsKind AreTame
  tame_carries = record {
    stays = λ w v i m e p. record { notes = p.notes; wishes = p.wishes };
    first = λ i. record { notes = tt; wishes = λ c h. absurd h };
    stepped =
        λ w i m e t p.
        record { notes = tame_notes w i m e t p; wishes = tame_wishes w i m e t p };
    halts = λ w i m p. record { notes = p.notes; wishes = p.wishes };
    kept = λ w i m e t p. record { notes = tame_notes w i m e t p; wishes = p.wishes };
    started = λ w i m c at live p. record { notes = p.notes; wishes = λ c h. absurd h };
  }

-- no height is let go, nor given up
tame_heights : (before notes : List Note) → EachAfter IsTame before notes
    → (filter_map pruned_height notes ≡ []) × (filter_map floor_height notes ≡ [])
tame_heights before [] e = (refl, refl)
tame_heights before (Note.Prune h ∷ ns) e = absurd e.0
tame_heights before (Note.Floor h ∷ ns) e = absurd e.0
tame_heights before (Note.Ack h ∷ ns) e = tame_heights (before ++ Note.Ack h ∷ []) ns e.1
tame_heights before (Note.Vote v ∷ ns) e = tame_heights (before ++ Note.Vote v ∷ []) ns e.1
tame_heights before (Note.Verified x v c ∷ ns) e =
    tame_heights (before ++ Note.Verified x v c ∷ []) ns e.1
tame_heights before (Note.Block c b ∷ ns) e =
    tame_heights (before ++ Note.Block c b ∷ []) ns e.1
tame_heights before (Note.Cert s ∷ ns) e = tame_heights (before ++ Note.Cert s ∷ []) ns e.1
tame_heights before (Note.Certified p ∷ ns) e =
    tame_heights (before ++ Note.Certified p ∷ []) ns e.1
tame_heights before (Note.Epoch x c ∷ ns) e = tame_heights (before ++ Note.Epoch x c ∷ []) ns e.1

-- ---- tests of all honest members

pub all_pass : {X : Type 0} (p : X → Bool) (xs : List X) → ((x : X) → In x xs → p x ≡ true)
    → list_all p xs ≡ true
all_pass p [] f = refl
all_pass p (x ∷ xs) f =
    and_from (p x) (list_all p xs) (f x (inl refl)) (all_pass p xs (λ y h. f y (inr h)))

numbered_from : (low : ℕ) (os : List (Option Member)) (i : ℕ) (o : Option Member)
    → In (i, o) (enumerate_from low os) → (k : ℕ) × (slice_get os k ≡ Some o)
numbered_from low [] i o h = absurd h
numbered_from low (x ∷ xs) i o (inl e) =
    let same : o ≡ x = ap (λ (p : ℕ × Option Member). p.1) e in (0, ap Some (sym same))
numbered_from low (x ∷ xs) i o (inr h) =
    let (k, at) = numbered_from (low + 1) xs i o h in (suc k, at)

-- each numbered member is an honest one
pub is_there : (w : World) (at : ℕ × Member) → In at (numbered_members w)
    → (k : ℕ) × (slice_get w.members k ≡ Some (Some at.1))
is_there w at h = go (mapped_from pick (enumerate_from 0 w.members) at h)
  where
    pick : ℕ × Option Member → Option (ℕ × Member)
    pick x = option_map (λ m. (x.0, m)) x.1

    by_member : (i : ℕ) (o : Option Member) → In (i, o) (enumerate_from 0 w.members)
        → option_map (λ (m : Member). (i, m)) o ≡ Some at
        → (k : ℕ) × (slice_get w.members k ≡ Some (Some at.1))
    by_member i None there e = cc
    by_member i (Some m) there e =
        let same : (i, m) ≡ at = same_Some (i, m) at e in
        let one : m ≡ at.1 = ap (λ (p : ℕ × Member). p.1) same in
        let (k, is) = numbered_from 0 w.members i (Some m) there in
        (k, is ∙ ap (λ x. Some (Some x)) one)

    go : ((x : ℕ × Option Member) × In x (enumerate_from 0 w.members) × (pick x ≡ Some at))
        → (k : ℕ) × (slice_get w.members k ≡ Some (Some at.1))
    go ((i, o), there, e) = by_member i o there e

pub always_able : (r : Rules) (script : List Line) (w : World) → IsCluster r script
    → AllByRecursion (λ line. keeps_all line ≡ true) script → Reaches r script w
    → is_able r w ≡ true
always_able r script w cluster kind reach =
    and_from (is_stocked w) (list_all (can_enter r (newest_epoch w)) (numbered_members w))
    (all_pass _ (numbered_members w)
    (λ a x. all_pass _ (numbered_members w)
    (λ b y. le-leb (greatest_prune (member_notes b.1)) (resume (member_notes a.1))
    (omega (arith, ap greatest (heights b y).0)))))
    (all_pass (can_enter r (newest_epoch w)) (numbered_members w)
    (λ a x. or_right
    (not (is_member r.epochs (newest_epoch w) a.0)
    || (epoch_of (member_notes a.1) == newest_epoch w))
    _ (by_span a x r.epochs.span)))
  where
    heights : (a : ℕ × Member) → In a (numbered_members w)
        → (filter_map pruned_height (member_notes a.1) ≡ [])
        × (filter_map floor_height (member_notes a.1) ≡ [])
    heights a h =
        let (k, at) = is_there w a h in
        tame_heights [] (member_notes a.1)
        (reached_all r script IsKind AreTame (tame_carries r script) w cluster kind reach k a.1
        at).notes

    by_span : (a : ℕ × Member) → In a (numbered_members w) → (o : Option ℕ)
        → option_map_or
        (λ span. nat_le (greatest_floor (member_notes a.1)) (newest_epoch w * span)) o true
        ≡ true
    by_span a x None = refl
    by_span a x (Some span) =
        le-leb (greatest_floor (member_notes a.1)) (newest_epoch w * span)
        (omega (arith, ap greatest (heights a x).1))

-- in one epoch without end each can enter
pub single_able : (r : Rules) (w : World) → r.epochs.span ≡ None → is_stocked w ≡ true
    → is_able r w ≡ true
single_able r w none stocked =
    and_from (is_stocked w) (list_all (can_enter r (newest_epoch w)) (numbered_members w))
    stocked
    (all_pass (can_enter r (newest_epoch w)) (numbered_members w)
    (λ a x. or_right
    (not (is_member r.epochs (newest_epoch w) a.0)
    || (epoch_of (member_notes a.1) == newest_epoch w))
    _
    (ap
    (λ o. option_map_or
    (λ span. nat_le (greatest_floor (member_notes a.1)) (newest_epoch w * span)) o true)
    none)))
