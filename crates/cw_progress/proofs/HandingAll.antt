-- All honest members hand out what is final, by acknowledgements.
use Rattle.std.proofs.Common.{◌≡◌, ℕ, zero, suc, ◌+◌, ◌<◌, ◌≤◌, Bool, true, false, ◌&&◌, ◌||◌, ◌==◌, cond, max, nat_lt, List, [], ◌∷◌, ◌++◌, Option, Some, None, filter_map, length, map, option_and_then, option_map, slice_get, refl, sym, ◌∙◌, ap, subst, inl, inr, ◌⊎◌, arith, append_assoc, eq-eqb}
use Rattle.std.specs.Prelude.{if◌then◌else◌}
use Rattle.std.specs.List.{AllByRecursion, enumerate_from, last_or, range_with_len}
use Rattle.std.specs.Option.{option_map_or}
use Rattle.std.proofs.lemmas.Bool.{cases_eq, cases_lt, cond-true, false≢true}
use Rattle.std.proofs.lemmas.Option.{same_Some}
use Rattle.cw_types.specs.declared.event.Event.{Event}
use Rattle.cw_types.specs.declared.event.Handed.{Handed}
use Rattle.cw_types.specs.declared.note.Note.{Note}
use Rattle.cw_types.specs.declared.vote.Vote.{Vote}
use Rattle.cw_rules.specs.Accepted.{State}
use Rattle.cw_rules.specs.Chains.{Ends, outcome}
use Rattle.cw_rules.specs.Held.{acked_height, greatest_floor, is_pending, last_ack, next, resume}
use Rattle.cw_rules.specs.Reached.{In, IsCluster, Reaches}
use Rattle.cw_rules.specs.Rules.{Rules}
use Rattle.cw_rules.specs.Stands.{EachAfter}
use Rattle.cw_rules.specs.Step.{Member, Stepped, cut_step, member_notes, start, state_of, step, step_notes, taken}
use Rattle.cw_rules.specs.World.{Ask, Cut, Do, Faulty, Line, Restart, World, done_by, event_of, happens, line_member, member_at, run, signed, turned, with_done}
use Rattle.cw_rules.proofs.Changes.{only_grows}
use Rattle.cw_rules.proofs.Lists.{all_both, in_cases, in_left, in_right, map_some}
use Rattle.cw_rules.proofs.Worlds.{frames_join, member_there}
use Rattle.cw_progress.specs.Going.{handed_of, known_top, numbered_members}
use Rattle.cw_progress.specs.Handing.{AllHandAbove, AllHandUpTo, CanHandUpTo, HandsUpTo, IsHandedIn, is_ack}
use Rattle.cw_progress.specs.Over.{is_honest_line}
use Rattle.cw_progress.specs.Tops.{final_top}
use Rattle.cw_progress.proofs.Carries.{each_at, part_cut, whole_cut}
use Rattle.cw_progress.proofs.Ends.{member_is}
use Rattle.cw_progress.proofs.Fresh.{in_range}
use Rattle.cw_progress.proofs.Further.{reaches_on, run_both}
use Rattle.cw_progress.proofs.HandingNotes.{next_is}
use Rattle.cw_progress.proofs.HandingOne.{hands_up}
use Rattle.cw_progress.proofs.Outs.{filter_from, in_map, mapped_from, mapped_in}
use Rattle.cw_progress.proofs.Over.{get_below, member_done}
use Rattle.cw_progress.proofs.Paths.{outcome_both}
use Rattle.cw_progress.proofs.Rests.{step_each}
use Rattle.cw_progress.proofs.Tops.{from_map, given_final, in_greatest, last_in, notes_final}
use Rattle.cw_progress.proofs.Voting.{other_same}

-- ---- acknowledgements

ack_honest : (line : Line) → is_ack line ≡ true → is_honest_line line ≡ true
ack_honest (Do i ask) h = refl
ack_honest (Cut a c x i ask) h = refl
ack_honest (Restart i) h = refl
ack_honest (Faulty i fault) h = absurd (false≢true h)

acks_honest : (lines : List Line) → AllByRecursion (λ line. is_ack line ≡ true) lines
    → AllByRecursion (λ line. is_honest_line line ≡ true) lines
acks_honest [] a = tt
acks_honest (line ∷ lines) a = (ack_honest line a.0, acks_honest lines a.1)

own_acks : (i : ℕ) (lines : List Line) → AllByRecursion (λ line. line ≡ Do i Ask.Ack) lines
    → AllByRecursion (λ line. is_ack line ≡ true) lines
own_acks i [] a = tt
own_acks i (line ∷ lines) a = (ap is_ack a.0, own_acks i lines a.1)

-- the note that acknowledges a height
ack_note : (n : Note) (a : ℕ) → acked_height n ≡ Some a → n ≡ Note.Ack a
ack_note (Note.Ack h) a e = ap Note.Ack (same_Some h a e)
ack_note (Note.Floor h) a e = cc
ack_note (Note.Prune h) a e = cc
ack_note (Note.Vote v) a e = cc
ack_note (Note.Verified epoch view c) a e = cc
ack_note (Note.Block c b) a e = cc
ack_note (Note.Cert s) a e = cc
ack_note (Note.Certified p) a e = cc
ack_note (Note.Epoch epoch c) a e = cc

-- ---- numbers of members

enumerated : (low : ℕ) (os : List (Option Member)) (i k : ℕ) (o : Option Member) → k ≡ low + i
    → slice_get os i ≡ Some o → In (k, o) (enumerate_from low os)
enumerated low [] i k o e h = cc
enumerated low (x ∷ xs) zero k o e h =
    let same : x ≡ o = same_Some x o h in
    let here : k ≡ low = omega (arith, e) in
    inl (λ j. (here j, sym same j))
enumerated low (x ∷ xs) (suc i) k o e h =
    inr (enumerated (low + 1) xs i k o (omega (arith, e)) h)

-- an honest member is one of the numbered
numbered_in : (w : World) (i : ℕ) (m : Member) → member_at w i ≡ Some m
    → In (i, m) (numbered_members w)
numbered_in w i m at =
    mapped_in (λ (x : ℕ × Option Member). option_map (λ m. (x.0, m)) x.1)
    (enumerate_from 0 w.members) (i, Some m) (i, m)
    (enumerated 0 w.members i i (Some m) (omega arith) (member_there w i m at)) refl

module _ (r : Rules) where
  -- ---- what lines hand out

  abbrev first_handed : World → ℕ → Line → List Handed
  first_handed w i line =
      if line_member line == i
      then option_map_or (λ (d : Stepped). d.handed) (done_by r w line) [] else []

  handed_both : (w : World) (i : ℕ) (xs ys : List Line)
      → handed_of r w i (xs ++ ys) ≡ handed_of r w i xs ++ handed_of r (run r w xs) i ys
  handed_both w i [] ys = refl
  handed_both w i (x ∷ xs) ys =
      ap (λ l. first_handed w i x ++ l) (handed_both (happens r w x) i xs ys)
      ∙ sym
      (append_assoc (first_handed w i x) (handed_of r (happens r w x) i xs)
      (handed_of r (run r (happens r w x) xs) i ys))

  in_front : (w : World) (i : ℕ) (xs ys : List Line) (h : ℕ) → IsHandedIn r w i xs h
      → IsHandedIn r w i (xs ++ ys) h
  in_front w i xs ys h (x, at, e) = (
    x,
    subst (In x) (sym (handed_both w i xs ys))
        (in_left x (handed_of r w i xs) (handed_of r (run r w xs) i ys) at),
    e,
  )

  in_behind : (w : World) (i : ℕ) (xs ys : List Line) (h : ℕ) → IsHandedIn r (run r w xs) i ys h
      → IsHandedIn r w i (xs ++ ys) h
  in_behind w i xs ys h (x, at, e) = (
    x,
    subst (In x) (sym (handed_both w i xs ys))
        (in_right x (handed_of r w i xs) (handed_of r (run r w xs) i ys) at),
    e,
  )

  -- ---- one member after the other

  module _ (script : List Line) (w : World) (cluster : IsCluster r script)
      (reach : Reaches r script w) (pos : 0 < r.backlog) (top : ℕ)
      (can : (i : ℕ) (m : Member) → member_at w i ≡ Some m → CanHandUpTo r m top) where
    -- the member hands out each height in these lines
    abbrev HasHanded : List Line → ℕ → Type 0
    HasHanded lines j =
        (m : Member) → member_at w j ≡ Some m → (h : ℕ) → next (state_of m) ≤ h → h ≤ top
        → IsHandedIn r w j lines h

    -- each member stands as it stood, or does; these do
    record Along (xs : List ℕ) : Type 0 where
      acks : List Line
      are : AllByRecursion (λ line. is_ack line ≡ true) acks
      ends : outcome r w acks ≡ Ends (run r w acks)
      each : (j : ℕ) → (member_at (run r w acks) j ≡ member_at w j) ⊎ HasHanded acks j
      all : (j : ℕ) → In j xs → HasHanded acks j

    along_on : (x : ℕ) (xs : List ℕ) → Along xs → Along (x ∷ xs)
    along_on x xs a = by_each (a.each x)
      where
        u : World
        u = run r w a.acks

        skip : HasHanded a.acks x → Along (x ∷ xs)
        skip d = record {
          acks = a.acks;
          are = a.are;
          ends = a.ends;
          each = a.each;
          all = by_place;
        }
          where
            by_place : (j : ℕ) → (j ≡ x) ⊎ In j xs → HasHanded a.acks j
            by_place j (inl e) = subst (HasHanded a.acks) (sym e) d
            by_place j (inr h) = a.all j h

        joined : (m : Member) → member_at w x ≡ Some m → HandsUpTo r u x m top → Along (x ∷ xs)
        joined m at k = record {
          acks = a.acks ++ k.acks;
          are =
              all_both (λ line. is_ack line ≡ true) a.acks k.acks a.are (own_acks x k.acks k.are);
          ends =
              outcome_both r w u a.acks k.acks a.ends
              ∙ (k.ends ∙ ap Ends (sym (run_both r w a.acks k.acks)));
          each = λ j. by_other j (cases_eq x j);
          all = by_place;
        }
          where
            it : HasHanded (a.acks ++ k.acks) x
            it n there h low high =
                let same : m ≡ n = same_Some m n (sym at ∙ there) in
                in_behind w x a.acks k.acks h
                (k.each h (subst (λ (y : Member). next (state_of y) ≤ h) (sym same) low) high)

            more : (j : ℕ) → HasHanded a.acks j → HasHanded (a.acks ++ k.acks) j
            more j d n there h low high =
                in_front w j a.acks k.acks h (d n there h low high)

            stays : (j : ℕ) → (x ≡ j → ⊥) → (member_at u j ≡ member_at w j) ⊎ HasHanded a.acks j
                → (member_at (run r w (a.acks ++ k.acks)) j ≡ member_at w j)
                ⊎ HasHanded (a.acks ++ k.acks) j
            stays j ne (inl same) =
                inl
                (ap (λ v. member_at v j) (run_both r w a.acks k.acks) ∙ (k.others j ne ∙ same))
            stays j ne (inr d) = inr (more j d)

            by_other : (j : ℕ) → (x ≡ j) ⊎ (x ≡ j → ⊥)
                → (member_at (run r w (a.acks ++ k.acks)) j ≡ member_at w j)
                ⊎ HasHanded (a.acks ++ k.acks) j
            by_other j (inl e) = inr (subst (HasHanded (a.acks ++ k.acks)) e it)
            by_other j (inr ne) = stays j ne (a.each j)

            by_place : (j : ℕ) → (j ≡ x) ⊎ In j xs → HasHanded (a.acks ++ k.acks) j
            by_place j (inl e) = subst (HasHanded (a.acks ++ k.acks)) (sym e) it
            by_place j (inr h) = more j (a.all j h)

        by_member : (o : Option Member) → member_at w x ≡ o → member_at u x ≡ member_at w x
            → Along (x ∷ xs)
        by_member None none same =
            skip (λ m at. let y : ◌≡◌ {A = Option Member} None (Some m) = sym none ∙ at in cc y)
        by_member (Some m) at same =
            let (longer, among, reaching) =
            reaches_on r script w a.acks cluster reach (acks_honest a.acks a.are) in
            joined m at
            (hands_up r pos x top longer u among reaching m (same ∙ at) (can x m at))

        by_each : (member_at u x ≡ member_at w x) ⊎ HasHanded a.acks x → Along (x ∷ xs)
        by_each (inr d) = skip d
        by_each (inl same) = by_member (member_at w x) refl same

    along : (xs : List ℕ) → Along xs
    along [] = record {
      acks = [];
      are = tt;
      ends = refl;
      each = λ j. inl refl;
      all = λ j h. absurd h;
    }
    along (x ∷ xs) = along_on x xs (along xs)

    pub all_up : AllHandUpTo r w top
    all_up =
        let a = along (range_with_len 0 (length w.members)) in
        record {
          acks = a.acks;
          are = a.are;
          ends = a.ends;
          each =
              λ i m at.
              a.all i
              (in_range 0 (length w.members) i (omega arith)
              (omega (arith, get_below w.members i (Some m) (member_there w i m at))))
              m at;
        }

  -- ---- what a member handed out

  -- it handed out that height since its start, or acknowledged it
  abbrev HadHanded : Member → ℕ → Type 0
  HadHanded m h = In h m.given ⊎ In (Note.Ack h) (member_notes m)

  abbrev Gives : Stepped → ℕ → Type 0
  Gives done h = (x : Handed) × In x done.handed × (x.height ≡ h)

  -- an acknowledged height was handed out
  abbrev IsGivenAck : List ℕ → List Note → Note → Type 0
  IsGivenAck given before (Note.Ack h) = In h given
  IsGivenAck given before _ = Unit {0}

  ack_tells : (id : ℕ) (sign : ℕ → Vote → Bool) (m : Member) (e : Event) (h : ℕ)
      → In (Note.Ack h) (member_notes (step r id sign m e).member) → HadHanded m h
  ack_tells id sign m e h at =
      go
      (in_cases (Note.Ack h) (member_notes m) notes
      (subst (In (Note.Ack h)) (frames_join m.frames notes) at))
    where
      during : State
      during = taken r sign (state_of m) e

      notes : List Note
      notes = step_notes r id during e

      all : EachAfter (IsGivenAck m.given) (member_notes m) notes
      all =
          step_each (IsGivenAck m.given) r id during e (record {
            of_block = λ ns c b. tt;
            of_verified = λ ns epoch view c. tt;
            of_notarize = λ ns p o. tt;
            of_finalize = λ ns p. tt;
            of_certified = λ ns p. tt;
            of_epoch = λ ns epoch c. tt;
            of_nullify = λ view is s. tt;
            of_ack =
                λ x y.
                (filter_from (is_pending (last_ack during.notes) (greatest_floor during.notes))
                m.given x y).0;
            of_prune = λ x a is last le. tt;
            of_cert = λ ns v signers x. tt;
            of_floor = λ ns c b y n o x. tt;
          })

      go : In (Note.Ack h) (member_notes m) ⊎ In (Note.Ack h) notes → HadHanded m h
      go (inl there) = inr there
      go (inr there) =
          let (front, rest, joined, it) =
          each_at (IsGivenAck m.given) (member_notes m) notes (Note.Ack h) all there in
          inl it

  step_tells : (id : ℕ) (sign : ℕ → Vote → Bool) (m : Member) (e : Event) (h : ℕ)
      → HadHanded (step r id sign m e).member h → HadHanded m h ⊎ Gives (step r id sign m e) h
  step_tells id sign m e h (inr at) = inl (ack_tells id sign m e h at)
  step_tells id sign m e h (inl at) =
      go
      (in_cases h m.given (map (λ (x : Handed). x.height) (step r id sign m e).handed) at)
    where
      go : In h m.given ⊎ In h (map (λ (x : Handed). x.height) (step r id sign m e).handed)
          → HadHanded m h ⊎ Gives (step r id sign m e) h
      go (inl there) = inl (inl there)
      go (inr there) =
          inr (from_map (λ (x : Handed). x.height) (step r id sign m e).handed h there)

  cut_tells : (id : ℕ) (sign : ℕ → Vote → Bool) (m : Member) (a c x : ℕ) (e : Event) (h : ℕ)
      → HadHanded (cut_step r id sign m a c x e).member h
      → HadHanded m h ⊎ Gives (cut_step r id sign m a c x e) h
  cut_tells id sign m a c x e h =
      by_end ((length notes == 0) || nat_lt 4 a) (nat_lt 2 a && (nat_lt 0 c || (x == 1)))
    where
      done : Stepped
      done = step r id sign m e

      notes : List Note
      notes = step_notes r id (taken r sign (state_of m) e) e

      part : Bool → Stepped
      part b = part_cut m (cond b done.member.frames m.frames)

      by_end : (t b : Bool) → HadHanded (cond t (whole_cut done) (part b)).member h
          → HadHanded m h ⊎ Gives (cond t (whole_cut done) (part b)) h
      by_end true b k = step_tells id sign m e h k
      by_end false b (inl at) = inl (inl at)
      by_end false true (inr at) = inl (ack_tells id sign m e h at)
      by_end false false (inr at) = inl (inr at)

  turn_tells : (w : World) (i : ℕ) (line : Line) (m : Member) (done : Stepped)
      → turned r w i line m ≡ Some done → (h : ℕ) → HadHanded done.member h
      → HadHanded m h ⊎ Gives done h
  turn_tells w i (Do j ask) m done t h = go m.live t
    where
      by_event : ((e : Event) × (event_of w i ask ≡ Some e) × (step r i (signed w) m e ≡ done))
          → HadHanded done.member h → HadHanded m h ⊎ Gives done h
      by_event (e, is, same) =
          subst (λ (d : Stepped). HadHanded d.member h → HadHanded m h ⊎ Gives d h) same
          (step_tells i (signed w) m e h)

      go : (b : Bool)
          → cond b (option_map (step r i (signed w) m) (event_of w i ask)) None ≡ Some done
          → HadHanded done.member h → HadHanded m h ⊎ Gives done h
      go true f = by_event (map_some (step r i (signed w) m) (event_of w i ask) done f)
      go false f = cc
  turn_tells w i (Cut a c x j ask) m done t h = go m.live t
    where
      by_event : ((e : Event) × (event_of w i ask ≡ Some e)
          × (cut_step r i (signed w) m a c x e ≡ done))
          → HadHanded done.member h → HadHanded m h ⊎ Gives done h
      by_event (e, is, same) =
          subst (λ (d : Stepped). HadHanded d.member h → HadHanded m h ⊎ Gives d h) same
          (cut_tells i (signed w) m a c x e h)

      go : (b : Bool)
          → cond b (option_map (cut_step r i (signed w) m a c x) (event_of w i ask)) None
          ≡ Some done
          → HadHanded done.member h → HadHanded m h ⊎ Gives done h
      go true f = by_event (map_some (cut_step r i (signed w) m a c x) (event_of w i ask) done f)
      go false f = cc
  turn_tells w i (Restart j) m done t h = go m.live t
    where
      start_tells : HadHanded (start r i m.frames).member h
          → HadHanded m h ⊎ Gives (start r i m.frames) h
      start_tells (inl at) =
          inr (from_map (λ (x : Handed). x.height) (start r i m.frames).handed h at)
      start_tells (inr at) = inl (inr at)

      go : (b : Bool) → cond b None (Some (start r i m.frames)) ≡ Some done
          → HadHanded done.member h → HadHanded m h ⊎ Gives done h
      go true f = cc
      go false f =
          subst (λ (d : Stepped). HadHanded d.member h → HadHanded m h ⊎ Gives d h)
          (same_Some (start r i m.frames) done f) start_tells
  turn_tells w i (Faulty j fault) m done t h = cc

  -- what a member handed out by the end of a line it did before, or in the line
  module _ (w : World) (i : ℕ) (m x : Member) (at : member_at w i ≡ Some m) (h : ℕ) where
    stood : member_at w i ≡ Some x → HadHanded x h → HadHanded m h
    stood there k = subst (λ (z : Member). HadHanded z h) (same_Some x m (sym there ∙ at)) k

    acts_tell : (line : Line)
        → member_at (option_map_or (with_done w (line_member line)) (done_by r w line) w) i ≡ Some x
        → HadHanded x h → HadHanded m h ⊎ IsHandedIn r w i (line ∷ []) h
    acts_tell line = go (done_by r w line) refl
      where
        n : ℕ
        n = line_member line

        by_turn : (done : Stepped) → done_by r w line ≡ Some done → n ≡ i
            → HadHanded m h ⊎ Gives done h → HadHanded m h ⊎ IsHandedIn r w i (line ∷ []) h
        by_turn done e same (inl k) = inl k
        by_turn done e same (inr (y, there, is)) =
            let front : first_handed w i line ≡ done.handed =
            cond-true (n == i)
            (option_map_or (λ (d : Stepped). d.handed) (done_by r w line) []) []
            (eq-eqb n i same)
            ∙ ap (λ o. option_map_or (λ (d : Stepped). d.handed) o []) e in
            inr (y, in_left y (first_handed w i line) [] (subst (In y) (sym front) there), is)

        by_place : (done : Stepped) → done_by r w line ≡ Some done
            → member_at (with_done w n done) i ≡ Some x → (n ≡ i) ⊎ (n ≡ i → ⊥)
            → HadHanded x h → HadHanded m h ⊎ IsHandedIn r w i (line ∷ []) h
        by_place done e there (inr ne) k =
            inl (stood (sym (other_same w n done i ne) ∙ there) k)
        by_place done e there (inl same) k =
            let own : member_at (with_done w n done) i ≡ Some done.member =
            subst (λ z. member_at (with_done w n done) z ≡ Some done.member) same
            (member_done w n m done (ap (member_at w) same ∙ at)) in
            let it : x ≡ done.member = same_Some x done.member (sym there ∙ own) in
            let t : turned r w i line m ≡ Some done =
            sym (ap (option_and_then (turned r w i line)) at)
            ∙ subst (λ z. option_and_then (turned r w z line) (member_at w z) ≡ Some done) same e
            in
            by_turn done e same
            (turn_tells w i line m done t h (subst (λ (z : Member). HadHanded z h) it k))

        go : (o : Option Stepped) → done_by r w line ≡ o
            → member_at (option_map_or (with_done w n) o w) i ≡ Some x → HadHanded x h
            → HadHanded m h ⊎ IsHandedIn r w i (line ∷ []) h
        go None e there k = inl (stood there k)
        go (Some done) e there k = by_place done e there (cases_eq n i) k

    line_tells : (line : Line) → member_at (happens r w line) i ≡ Some x → HadHanded x h
        → HadHanded m h ⊎ IsHandedIn r w i (line ∷ []) h
    line_tells (Do j ask) there k = acts_tell (Do j ask) there k
    line_tells (Cut a c f j ask) there k = acts_tell (Cut a c f j ask) there k
    line_tells (Restart j) there k = acts_tell (Restart j) there k
    line_tells (Faulty j fault) there k = inl (stood there k)

  -- by the end of some lines
  abbrev Tells : World → ℕ → Member → List Line → Type 0
  Tells w i m lines =
      (x : Member) × (member_at (run r w lines) i ≡ Some x)
      × ((h : ℕ) → HadHanded x h → HadHanded m h ⊎ IsHandedIn r w i lines h)

  tells : (lines : List Line) (w : World) (i : ℕ) (m : Member) → member_at w i ≡ Some m
      → Tells w i m lines
  tells [] w i m at = (m, at, λ h k. inl k)
  tells (line ∷ lines) w i m at =
      go (only_grows r w line i m (member_there w i m at)).after
      (member_is (happens r w line) i (only_grows r w line i m (member_there w i m at)).after
      (only_grows r w line i m (member_there w i m at)).there)
      (tells lines (happens r w line) i)
    where
      go : (y : Member) → member_at (happens r w line) i ≡ Some y
          → ((y : Member) → member_at (happens r w line) i ≡ Some y
          → Tells (happens r w line) i y lines)
          → Tells w i m (line ∷ lines)
      go y there later = on (later y there)
        where
          first : (h : ℕ) → HadHanded m h ⊎ IsHandedIn r w i (line ∷ []) h
              → HadHanded m h ⊎ IsHandedIn r w i (line ∷ lines) h
          first h (inl k) = inl k
          first h (inr g) = inr (in_front w i (line ∷ []) lines h g)

          both : (h : ℕ) → HadHanded y h ⊎ IsHandedIn r (happens r w line) i lines h
              → HadHanded m h ⊎ IsHandedIn r w i (line ∷ lines) h
          both h (inl k) = first h (line_tells w i m y at h line there k)
          both h (inr g) = inr (in_behind w i (line ∷ []) lines h g)

          on : Tells (happens r w line) i y lines → Tells w i m (line ∷ lines)
          on (x, standing, told) = (x, standing, λ h k. both h (told h k))

  -- ---- above what was known

  -- whose next height is above another that it didn't give up handed that out, or a higher one
  had_high : (m : Member) (top : ℕ) → greatest_floor (member_notes m) ≤ top
      → top < next (state_of m) → (g : ℕ) × HadHanded m g × (top ≤ g)
  had_high m top floor high = go (last_or None m.given) refl
    where
      notes : List Note
      notes = member_notes m

      in_acks : (a : ℕ) → last_ack notes ≡ Some a → In (Note.Ack a) notes
      in_acks a e = by_last (last_in None (filter_map acked_height notes) a e)
        where
          by_last : (◌≡◌ {A = Option ℕ} None (Some a)) ⊎ In a (filter_map acked_height notes)
              → In (Note.Ack a) notes
          by_last (inl f) = cc f
          by_last (inr h) =
              let (n, at, f) = mapped_from acked_height notes a h in
              subst (λ z. In z notes) (ack_note n a f) at

      resumes : (o : Option ℕ) → last_ack notes ≡ o
          → resume notes ≡ max (option_map_or (λ h. h + 1) o 0) (greatest_floor notes)
      resumes o e = ap (λ o. max (option_map_or (λ h. h + 1) o 0) (greatest_floor notes)) e

      by_ack : next (state_of m) ≡ max (resume notes) (greatest_floor notes) → (o : Option ℕ)
          → last_ack notes ≡ o → (g : ℕ) × HadHanded m g × (top ≤ g)
      by_ack is None e = absurd (omega (arith, high, floor, is, resumes None e))
      by_ack is (Some a) e =
          (a, inr (in_acks a e), omega (arith, high, floor, is, resumes (Some a) e))

      go : (o : Option ℕ) → last_or None m.given ≡ o → (g : ℕ) × HadHanded m g × (top ≤ g)
      go None e =
          by_ack
          (ap (λ o. max (option_map_or (λ h. h + 1) o (resume notes)) (greatest_floor notes)) e)
          (last_ack notes) refl
      go (Some g) e = (
        g,
        inl (by_last (last_in None m.given g e)),
        omega (
          arith,
          high,
          floor,
          next_is notes m.given g e,
        ),
      )
        where
          by_last : (◌≡◌ {A = Option ℕ} None (Some g)) ⊎ In g m.given → In g m.given
          by_last (inl f) = cc f
          by_last (inr h) = h

  pub all_above : (script : List Line) (w : World) → IsCluster r script → Reaches r script w
      → 0 < r.backlog → (lines : List Line)
      → AllByRecursion (λ line. is_honest_line line ≡ true) lines
      → outcome r w lines ≡ Ends (run r w lines) → (top : ℕ) → known_top r w < top
      → ((i : ℕ) (m : Member) → member_at (run r w lines) i ≡ Some m → CanHandUpTo r m top)
      → AllHandAbove r w lines
  all_above script w cluster reach pos lines honest ends top higher can =
      by_reached (reaches_on r script w lines cluster reach honest)
    where
      u : World
      u = run r w lines

      -- what a member handed out before isn't above what was known
      known : (i : ℕ) (m : Member) → member_at w i ≡ Some m → (g : ℕ) → HadHanded m g
          → g ≤ known_top r w
      known i m at g k = omega (arith, low k, top_known)
        where
          low : HadHanded m g → g ≤ final_top r (member_notes m)
          low (inl h) = given_final r script w cluster reach i m at g h
          low (inr h) = notes_final r script w cluster reach i m at (Note.Ack g) h

          tops : List ℕ
          tops =
              map (λ (z : ℕ × Member). final_top r (member_notes z.1)) (numbered_members w)

          top_known : final_top r (member_notes m) ≤ known_top r w
          top_known =
              in_greatest tops (final_top r (member_notes m))
              (in_map (λ (z : ℕ × Member). final_top r (member_notes z.1)) (numbered_members w)
              (i, m) (numbered_in w i m at))

      by_all : AllHandUpTo r u top → AllHandAbove r w lines
      by_all a = record {
        acks = a.acks;
        are = a.are;
        ends =
            outcome_both r w u lines a.acks ends
            ∙ (a.ends ∙ ap Ends (sym (run_both r w lines a.acks)));
        each = λ i m at. by_member i m at (tells lines w i m at);
      }
        where
          found : (i g : ℕ) → top ≤ g → IsHandedIn r w i (lines ++ a.acks) g
              → (x : Handed) × In x (handed_of r w i (lines ++ a.acks))
              × (known_top r w < x.height)
          found i g le (x, at, e) = (x, at, omega (arith, higher, le, e))

          by_told : (i g : ℕ) (m : Member) → member_at w i ≡ Some m → top ≤ g
              → HadHanded m g ⊎ IsHandedIn r w i lines g
              → (x : Handed) × In x (handed_of r w i (lines ++ a.acks))
              × (known_top r w < x.height)
          by_told i g m at le (inl k) =
              absurd (omega (arith, higher, le, known i m at g k))
          by_told i g m at le (inr h) = found i g le (in_front w i lines a.acks g h)

          by_member : (i : ℕ) (m : Member) → member_at w i ≡ Some m → Tells w i m lines
              → (x : Handed) × In x (handed_of r w i (lines ++ a.acks))
              × (known_top r w < x.height)
          by_member i m at (x, there, told) = by_next (cases_lt top (next (state_of x)))
            where
              by_next : (top < next (state_of x)) ⊎ (next (state_of x) ≤ top)
                  → (y : Handed) × In y (handed_of r w i (lines ++ a.acks))
                  × (known_top r w < y.height)
              by_next (inr le) =
                  found i top (omega arith)
                  (in_behind w i lines a.acks top (a.each i x there top le (omega arith)))
              by_next (inl past) =
                  let (g, k, le) = had_high x top (can i x there).not_given_up past in
                  by_told i g m at le (told g k)

      by_reached : ((longer : List Line) × IsCluster r longer × Reaches r longer u)
          → AllHandAbove r w lines
      by_reached (longer, among, reaching) = by_all (all_up longer u among reaching pos top can)
