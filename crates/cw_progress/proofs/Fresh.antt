-- Each honest member can be stopped and started.
use Rattle.std.proofs.Common.{◌≡◌, ℕ, zero, suc, ◌+◌, ◌<◌, ◌≤◌, Bool, true, false, ◌||◌, ◌==◌, cond, List, [], ◌∷◌, ◌++◌, Option, Some, None, drop, filter_map, flat_map, length, map, option_and_then, take, refl, sym, ◌∙◌, ap, subst, inl, inr, ◌⊎◌, arith, append_assoc, append-nil, eqb-true, length-append}
use Rattle.std.specs.List.{AllByRecursion, range_with_len}
use Rattle.std.specs.Option.{option_map_or}
use Rattle.std.proofs.lemmas.Bool.{cases_Bool, cases_eq, cases_lt, cond-true, cond-false}
use Rattle.std.proofs.lemmas.Option.{same_Some}
use Rattle.cw_types.specs.declared.commitment.Commitment.{Commitment}
use Rattle.cw_types.specs.declared.event.Event.{Event}
use Rattle.cw_types.specs.declared.event.Handed.{Handed}
use Rattle.cw_types.specs.declared.message.Message.{Message}
use Rattle.cw_types.specs.declared.note.Note.{Note}
use Rattle.cw_types.specs.Block.{Block}
use Rattle.cw_rules.specs.Chains.{Clashes, Ends, blocks_of, clash_at, first_clash, noted_block, outcome}
use Rattle.cw_rules.specs.Accepted.{State}
use Rattle.cw_rules.specs.Held.{next, next_of, resume}
use Rattle.cw_rules.specs.Reached.{In}
use Rattle.cw_rules.specs.Rules.{Rules}
use Rattle.cw_rules.specs.Sends.{missing, to_all}
use Rattle.cw_rules.specs.Step.{Member, Stepped, add_frame, cut_step, deliveries_within, delivery, member_notes, most_delivered, nothing_came, start, state_of, step, step_notes, taken, with_given, with_handed}
use Rattle.cw_rules.specs.World.{Ask, Cut, Line, Restart, Sent, World, done_by, happens, line_member, member_at, run, sent_now, signed, turned, with_done}
use Rattle.cw_rules.proofs.Clashes.{blocks_at, drop_front}
use Rattle.cw_rules.proofs.Deliveries.{delivery_is, next_given}
use Rattle.cw_rules.proofs.Worlds.{get-set_same, member_there}
use Rattle.cw_progress.specs.Fresh.{IsFresh}
use Rattle.cw_progress.specs.Going.{helps}
use Rattle.cw_progress.proofs.Carries.{part_cut, whole_cut}
use Rattle.cw_progress.proofs.Noted.{start_asks}
use Rattle.cw_progress.proofs.Outs.{IsNew, new_done, new_lower}
use Rattle.cw_progress.proofs.Over.{get_below, member_done}
use Rattle.cw_progress.proofs.Paths.{outcome_both}
use Rattle.cw_progress.proofs.Voting.{other_same}

-- ---- what a start hands out

-- hand-outs leave the next height no lower
next_rises : (r : Rules) (steps : ℕ) (s : State)
    → next s ≤ next (with_handed s (deliveries_within r steps s))
next_rises r zero s =
    let e = ap (λ hs. next_of s.notes hs) (append-nil s.given) in omega (arith, e)
next_rises r (suc steps) s = go (delivery r s) refl (λ t. next_rises r steps t)
  where
    by_more : (h : Handed) → delivery r s ≡ Some h
        → next (with_given s h.height)
        ≤ next (with_handed (with_given s h.height)
        (deliveries_within r steps (with_given s h.height)))
        → next s
        ≤ next (with_handed s (h ∷ deliveries_within r steps (with_given s h.height)))
    by_more h e later =
        let out = deliveries_within r steps (with_given s h.height) in
        let joined =
        ap (λ hs. next_of s.notes hs)
        (append_assoc s.given (h.height ∷ []) (map (λ (x : Handed). x.height) out)) in
        omega (arith, later, joined, next_given r s h.height, (delivery_is r s h e).1)

    go : (o : Option Handed) → delivery r s ≡ o
        → ((t : State) → next t ≤ next (with_handed t (deliveries_within r steps t)))
        → next s
        ≤ next (with_handed s
        (option_map_or (λ h. h ∷ deliveries_within r steps (with_given s h.height)) o []))
    go None e later = let f = ap (λ hs. next_of s.notes hs) (append-nil s.given) in omega (arith, f)
    go (Some h) e later = by_more h e (later (with_given s h.height))

-- a start hands out from where its notes let it
start_begins : (r : Rules) (x : ℕ) (frames : List (List Note))
    → resume (flat_map (λ frame. frame) frames) ≤ next (state_of (start r x frames).member)
start_begins r x frames =
    let s : State =
    record { notes = flat_map (λ frame. frame) frames; came = nothing_came; given = [] } in
    omega (arith, next_rises r (most_delivered r s) s)

-- ---- a line that brings no block

module _ (r : Rules) where
  no_clash : (w u : World) (i : ℕ)
      → blocks_of (take 1 (drop i u.members)) ≡ blocks_of (take 1 (drop i w.members))
      → clash_at r w u i ≡ None
  no_clash w u i same =
      ap
      (first_clash r (blocks_of (take i w.members)) own (blocks_of (drop (i + 1) w.members)))
      (ap (drop (length own)) (same ∙ sym (append-nil own)) ∙ drop_front own [])
    where
      own : List Block
      own = blocks_of (take 1 (drop i w.members))

  pub quiet_ends : (w u : World) (line : Line) → happens r w line ≡ u
      → blocks_of (take 1 (drop (line_member line) u.members))
      ≡ blocks_of (take 1 (drop (line_member line) w.members))
      → outcome r w (line ∷ []) ≡ Ends u
  quiet_ends w u line goes same =
      ap
      (λ o. option_map_or
      (λ both. Clashes (r.block_bytes both.0) (r.block_bytes both.1)) o
      (Ends (happens r w line)))
      (ap (λ v. clash_at r w v (line_member line)) goes ∙ no_clash w u (line_member line) same)
      ∙ ap Ends goes

  -- a turn that leaves its member's notes brings none
  same_blocks : (w : World) (i : ℕ) (m : Member) (done : Stepped) → member_at w i ≡ Some m
      → member_notes done.member ≡ member_notes m
      → blocks_of (take 1 (drop i (with_done w i done).members))
      ≡ blocks_of (take 1 (drop i w.members))
  same_blocks w i m done at same =
      blocks_at (with_done w i done).members i done.member
      (get-set_same w.members i (Some done.member) (Some m) (member_there w i m at))
      ∙ (ap (filter_map noted_block) same
      ∙ sym (blocks_at w.members i m (member_there w i m at)))

  -- ---- one member

  -- where such lines lead, with what became of the member, and the others as they stood
  record Leads (w : World) (i : ℕ) (m : Member) (lines : List Line) (live : Bool) : Type 0 where
    world : World
    goes : run r w lines ≡ world
    ends : outcome r w lines ≡ Ends world
    member : Member
    there : member_at world i ≡ Some member
    is_live : member.live ≡ live
    frames : member.frames ≡ m.frames
    more : List Sent
    pool : world.pool ≡ w.pool ++ more
    others : (j : ℕ) → (i ≡ j → ⊥) → member_at world j ≡ member_at w j

  -- a stop that writes nothing
  abbrev pub stop : ℕ → Line
  stop i = Cut 1 0 0 i Ask.Ack

  no_length : (notes : List Note) → (length notes == 0) ≡ true → notes ≡ []
  no_length [] h = refl
  no_length (n ∷ ns) h = absurd (omega (arith, eqb-true (length (n ∷ ns)) 0 h))

  stop_frames : (w : World) (i : ℕ) (m : Member)
      → ((cut_step r i (signed w) m 1 0 0 Event.Ack).member.live ≡ false)
      × ((cut_step r i (signed w) m 1 0 0 Event.Ack).member.frames ≡ m.frames)
  stop_frames w i m = go ((length notes == 0) || false) refl
    where
      notes : List Note
      notes = step_notes r i (taken r (signed w) (state_of m) Event.Ack) Event.Ack

      done : Stepped
      done = step r i (signed w) m Event.Ack

      go : (t : Bool) → ((length notes == 0) || false) ≡ t
          → ((cond t (whole_cut done) (part_cut m m.frames)).member.live ≡ false)
          × ((cond t (whole_cut done) (part_cut m m.frames)).member.frames ≡ m.frames)
      go true e = (refl, ap (add_frame m.frames) (no_length notes (first e)))
        where
          first : ((length notes == 0) || false) ≡ true → (length notes == 0) ≡ true
          first e = by (length notes == 0) e
            where
              by : (t : Bool) → (t || false) ≡ true → t ≡ true
              by true e = refl
              by false e = cc e
      go false e = (refl, refl)

  stops : (w : World) (i : ℕ) (m : Member) → member_at w i ≡ Some m
      → Leads w i m (stop i ∷ []) false
  stops w i m at = by_live (cases_Bool m.live)
    where
      done : Stepped
      done = cut_step r i (signed w) m 1 0 0 Event.Ack

      found : done_by r w (stop i) ≡ turned r w i (stop i) m
      found = ap (option_and_then (turned r w i (stop i))) at

      by_live : (m.live ≡ true) ⊎ (m.live ≡ false) → Leads w i m (stop i ∷ []) false
      by_live (inl t) =
          let goes : happens r w (stop i) ≡ with_done w i done =
          ap (λ o. option_map_or (with_done w i) o w)
          (found ∙ cond-true m.live (Some done) None t) in
          let p = stop_frames w i m in
          record {
            world = with_done w i done;
            goes = goes;
            ends =
                quiet_ends w (with_done w i done) (stop i) goes
                (same_blocks w i m done at (ap (flat_map (λ frame. frame)) p.1));
            member = done.member;
            there = member_done w i m done at;
            is_live = p.0;
            frames = p.1;
            more = sent_now w i done.sent;
            pool = refl;
            others = λ j ne. other_same w i done j ne;
          }
      by_live (inr f) =
          let goes : happens r w (stop i) ≡ w =
          ap (λ o. option_map_or (with_done w i) o w)
          (found ∙ cond-false m.live (Some done) None f) in
          record {
            world = w;
            goes = goes;
            ends = quiet_ends w w (stop i) goes refl;
            member = m;
            there = at;
            is_live = f;
            frames = refl;
            more = [];
            pool = sym (append-nil w.pool);
            others = λ j ne. refl;
          }

  starts : (w : World) (i : ℕ) (m : Member) → member_at w i ≡ Some m → m.live ≡ false
      → happens r w (Restart i) ≡ with_done w i (start r i m.frames)
  starts w i m at off =
      ap (λ o. option_map_or (with_done w i) o w)
      (ap (option_and_then (turned r w i (Restart i))) at
      ∙ cond-false m.live None (Some (start r i m.frames)) off)

  -- ---- some members, one after another

  abbrev pub again : List ℕ → List Line
  again [] = []
  again (x ∷ xs) = stop x ∷ Restart x ∷ again xs

  pub again_helps : (w : World) (payload : List ℕ) (xs : List ℕ)
      → AllByRecursion (λ line. helps w payload line ≡ true) (again xs)
  again_helps w payload [] = tt
  again_helps w payload (x ∷ xs) = (refl, (refl, again_helps w payload xs))

  -- after some have been started again
  record Started (w : World) (xs : List ℕ) : Type 0 where
    ends : outcome r w (again xs) ≡ Ends (run r w (again xs))
    each : (i : ℕ) (m : Member) → In i xs → member_at w i ≡ Some m
        → IsFresh (run r w (again xs)) i (member_notes m)
    fresh : (i : ℕ) (notes : List Note) → IsFresh w i notes
        → IsFresh (run r w (again xs)) i notes

  -- where the stop and the start of one lead
  pub record OneStarted (w : World) (x : ℕ) : Type 0 where
    pub world : World
    pub goes : run r w (again (x ∷ [])) ≡ world
    pub ends : outcome r w (again (x ∷ [])) ≡ Ends world
    pub more : List Sent
    pub pool : world.pool ≡ w.pool ++ more
    pub it : (m : Member) → member_at w x ≡ Some m → IsFresh world x (member_notes m)
    pub asks : (m : Member) (at : member_at w x ≡ Some m) (c : Commitment)
        → In c (missing r (state_of (it m at).member))
        → IsNew (length w.pool) world x (to_all (Message.Ask x c))
    pub others : (j : ℕ) → (x ≡ j → ⊥) → member_at world j ≡ member_at w j

  pub one_started : (w : World) (x : ℕ) → OneStarted w x
  one_started w x = go (member_at w x) refl
    where
      nobody : member_at w x ≡ None → (t : Member → Option Stepped)
          → option_map_or (with_done w x) (option_and_then t (member_at w x)) w ≡ w
      nobody e t = ap (λ o. option_map_or (with_done w x) (option_and_then t o) w) e

      longer : (u : World) (more : List Sent) → u.pool ≡ w.pool ++ more
          → length w.pool ≤ length u.pool
      longer u more e =
          let f = ap (λ (ps : List Sent). length ps) e in
          omega (arith, f, length-append w.pool more)

      none_there : (m : Member) → member_at w x ≡ None → member_at w x ≡ Some m → ⊥
      none_there m e at = let y : ◌≡◌ {A = Option Member} None (Some m) = sym e ∙ at in cc y

      go : (o : Option Member) → member_at w x ≡ o → OneStarted w x
      go None e =
          let first : happens r w (stop x) ≡ w = nobody e (turned r w x (stop x)) in
          let second : happens r w (Restart x) ≡ w = nobody e (turned r w x (Restart x)) in
          record {
            world = w;
            goes = ap (λ v. happens r v (Restart x)) first ∙ second;
            ends =
                outcome_both r w w (stop x ∷ []) (Restart x ∷ [])
                (quiet_ends w w (stop x) first refl)
                ∙ quiet_ends w w (Restart x) second refl;
            more = [];
            pool = sym (append-nil w.pool);
            it = λ m at. absurd (none_there m e at);
            asks = λ m at c h. absurd (none_there m e at);
            others = λ j ne. refl;
          }
      go (Some m) e =
          let a = stops w x m e in
          let done = start r x a.member.frames in
          let goes = starts a.world x a.member a.there a.is_live in
          let same : member_notes done.member ≡ member_notes a.member = refl in
          record {
            world = with_done a.world x done;
            goes = ap (λ v. happens r v (Restart x)) a.goes ∙ goes;
            ends =
                outcome_both r w a.world (stop x ∷ []) (Restart x ∷ []) a.ends
                ∙ quiet_ends a.world (with_done a.world x done) (Restart x) goes
                (same_blocks a.world x a.member done a.there same);
            it =
                λ n at.
                let one : m ≡ n = same_Some m n (sym e ∙ at) in
                record {
                  member = done.member;
                  there = member_done a.world x a.member done a.there;
                  live = refl;
                  nothing = refl;
                  same = ap (flat_map (λ frame. frame)) a.frames ∙ ap member_notes one;
                  begins =
                      subst (λ ns. resume ns ≤ next (state_of done.member))
                      (ap (flat_map (λ frame. frame)) a.frames ∙ ap member_notes one)
                      (start_begins r x a.member.frames);
                };
            more = a.more ++ sent_now a.world x done.sent;
            pool =
                ap (λ ps. ps ++ sent_now a.world x done.sent) a.pool
                ∙ append_assoc w.pool a.more (sent_now a.world x done.sent);
            asks =
                λ n at c h.
                new_lower (length w.pool) (length a.world.pool) (with_done a.world x done) x
                (to_all (Message.Ask x c)) (longer a.world a.more a.pool)
                (new_done a.world x done (to_all (Message.Ask x c))
                (start_asks r x a.member.frames c h));
            others =
                λ j ne. other_same a.world x done j ne ∙ a.others j ne;
          }

  started_here : (w : World) → Started w []
  started_here w = record {
    ends = refl;
    each = λ i m h. absurd h;
    fresh = λ i notes f. f;
  }

  all_started : (w : World) (xs : List ℕ) → Started w xs
  all_started w [] = started_here w
  all_started w (x ∷ xs) = joined (one_started w x) (all_started u xs)
    where
      u : World
      u = run r w (again (x ∷ []))

      joined : OneStarted w x → Started u xs → Started w (x ∷ xs)
      joined k rest =
          record {
            ends =
                outcome_both r w u (again (x ∷ [])) (again xs) (k.ends ∙ ap Ends (sym k.goes))
                ∙ rest.ends;
            each = λ i m h at. by_place i m h at;
            fresh = λ i notes f. rest.fresh i notes (fresh_one i notes f (cases_eq x i));
          }
        where
          it_here : (m : Member) → member_at w x ≡ Some m → IsFresh u x (member_notes m)
          it_here m at = subst (λ z. IsFresh z x (member_notes m)) (sym k.goes) (k.it m at)

          other_here : (j : ℕ) (n : Member) → (x ≡ j → ⊥) → member_at w j ≡ Some n
              → member_at u j ≡ Some n
          other_here j n ne h = ap (λ z. member_at z j) k.goes ∙ (k.others j ne ∙ h)

          fresh_one : (i : ℕ) (notes : List Note) → IsFresh w i notes
              → (x ≡ i) ⊎ (x ≡ i → ⊥) → IsFresh u i notes
          fresh_one i notes f (inl same) =
              subst (IsFresh u i) f.same
              (subst (λ z. IsFresh u z (member_notes f.member)) same
              (it_here f.member (ap (member_at w) same ∙ f.there)))
          fresh_one i notes f (inr ne) =
              record {
                member = f.member;
                there = other_here i f.member ne f.there;
                live = f.live;
                nothing = f.nothing;
                same = f.same;
                begins = f.begins;
              }

          stays_one : (i : ℕ) (m : Member) → member_at w i ≡ Some m
              → (x ≡ i) ⊎ (x ≡ i → ⊥)
              → (n : Member) × (member_at u i ≡ Some n) × (member_notes n ≡ member_notes m)
          stays_one i m at (inl same) =
              let f = it_here m (ap (member_at w) same ∙ at) in
              (f.member, ap (member_at u) (sym same) ∙ f.there, f.same)
          stays_one i m at (inr ne) = (m, other_here i m ne at, refl)

          by_place : (i : ℕ) (m : Member) → (i ≡ x) ⊎ In i xs → member_at w i ≡ Some m
              → IsFresh (run r u (again xs)) i (member_notes m)
          by_place i m (inl same) at =
              rest.fresh i (member_notes m)
              (subst (λ z. IsFresh u z (member_notes m)) (sym same)
              (it_here m (ap (member_at w) (sym same) ∙ at)))
          by_place i m (inr h) at =
              let (n, there, same) = stays_one i m at (cases_eq x i) in
              subst (IsFresh (run r u (again xs)) i) same (rest.each i n h there)

pub in_range : (low len i : ℕ) → low ≤ i → i < low + len → In i (range_with_len low len)
in_range low zero i le lt = absurd (omega (arith, le, lt))
in_range low (suc len) i le lt = go (cases_eq i low) (in_range (low + 1) len i)
  where
    above : (i ≡ low → ⊥) → low + 1 ≤ i
    above ne = by_order (cases_lt low i)
      where
        by_order : (low < i) ⊎ (i ≤ low) → low + 1 ≤ i
        by_order (inl more) = omega (arith, more)
        by_order (inr less) = absurd (ne (omega (arith, le, less)))

    go : (i ≡ low) ⊎ (i ≡ low → ⊥)
        → (low + 1 ≤ i → i < low + 1 + len → In i (range_with_len (low + 1) len))
        → In i (range_with_len low (suc len))
    go (inl same) later = inl same
    go (inr ne) later = inr (later (above ne) (omega (arith, lt)))

-- all can be started again
pub all_fresh : (r : Rules) (w : World) (payload : List ℕ)
    → (lines : List Line) × AllByRecursion (λ line. helps w payload line ≡ true) lines
    × (outcome r w lines ≡ Ends (run r w lines))
    × ((i : ℕ) (m : Member) → member_at w i ≡ Some m
    → IsFresh (run r w lines) i (member_notes m))
all_fresh r w payload =
    let xs = range_with_len 0 (length w.members) in
    let s = all_started r w xs in (
      again r xs,
      again_helps r w payload xs,
      s.ends,
      λ i m at.
          s.each i m
          (in_range 0 (length w.members) i (omega arith)
          (omega (arith, get_below w.members i (Some m) (member_there w i m at))))
          at,
    )
