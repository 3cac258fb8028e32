-- A certificate goes over to whoever is live, and a block to whoever misses it.
use Rattle.std.proofs.Common.{◌≡◌, ◌≢◌, ℕ, zero, suc, ◌<◌, ◌≤◌, Bool, true, false, ◌&&◌, ◌||◌, not, cond, max, nat_le, nat_lt, List, [], ◌∷◌, ◌++◌, Option, Some, None, filter_map, length, option_map, option_and_then, slice_get, refl, sym, ◌∙◌, ap, subst, inl, inr, ◌⊎◌, arith, append_assoc, append-nil, eq-eqb, lt-ltb}
use Rattle.std.specs.List.{list_any}
use Rattle.std.specs.Option.{option_map_or, option_or}
use Rattle.std.proofs.lemmas.Bool.{and_from, cases_Bool, cond-true, cond-false, false≢true, leb-false, not-true, or_left, or_right}
use Rattle.std.proofs.lemmas.List.Elements.{filter_map-append}
use Rattle.std.proofs.lemmas.Option.{same_Some}
use Rattle.cw_types.specs.declared.commitment.Commitment.{Commitment}
use Rattle.cw_types.specs.declared.event.Event.{Event}
use Rattle.cw_types.specs.declared.event.Out.{Out}
use Rattle.cw_types.specs.declared.event.To.{To}
use Rattle.cw_types.specs.declared.message.Message.{Message}
use Rattle.cw_types.specs.declared.note.Note.{Note}
use Rattle.cw_types.specs.declared.vote.Cert.{Cert}
use Rattle.cw_types.specs.declared.vote.Vote.{Vote}
use Rattle.cw_types.specs.Block.{Block}
use Rattle.cw_types.specs.Same.{same_block, same_commitment}
use Rattle.cw_types.proofs.Same.{same_block-true, same_block_self, same_commitment-true, same_commitment_self}
use Rattle.cw_rules.specs.Accepted.{Came, Part, Row, State, Whole, first_some, is_valid, same_part}
use Rattle.cw_rules.specs.Held.{floor_height, greatest_floor, greatest_prune, held, next, pruned_height, shown, shown_by, shown_by_rows, shown_whole, whole_of}
use Rattle.cw_rules.specs.Keeps.{Keeps, meaning}
use Rattle.cw_rules.specs.Notes.{greatest, has_block, has_cert, is_block}
use Rattle.cw_rules.specs.Owed.{block_owed, cert_owed, named_commitments, named_votes, part_commitment, when}
use Rattle.cw_rules.specs.Reached.{In, IsCluster, Reaches, members_of}
use Rattle.cw_rules.specs.Rules.{Rules, commit, genesis_commitment}
use Rattle.cw_rules.specs.declared.travel.Travel.{Travel}
use Rattle.cw_rules.specs.declared.travel.Travel.TheVariants.{Chunked, Uncut}
use Rattle.cw_rules.specs.Sends.{answer, leads, missing, once, to_all}
use Rattle.cw_rules.specs.Stands.{EachAfter}
use Rattle.cw_rules.specs.Step.{Member, Stepped, member_notes, state_of, step, step_notes, taken, with_notes}
use Rattle.cw_rules.specs.World.{Ask, Do, Line, Sent, World, done_by, event_of, happens, is_to, member_at, message_for, run, signed, turned, with_done}
use Rattle.cw_rules.proofs.Blocks.{first_in}
use Rattle.cw_rules.proofs.Anchors.{get-set_other}
use Rattle.cw_rules.proofs.NoteLemmas.{any_front}
use Rattle.cw_rules.proofs.Reach.{reached_kept}
use Rattle.cw_rules.proofs.Settles.{step_ends}
use Rattle.cw_rules.proofs.Worlds.{IsWorldKept, frames_join, get-set_same, length-mapped, member_there}
use Rattle.cw_progress.specs.Over.{ComesTo, is_delivery}
use Rattle.cw_progress.specs.Sent.{IsSent}
use Rattle.cw_progress.proofs.Carries.{each_at}
use Rattle.cw_progress.proofs.Ends.{member_is}
use Rattle.cw_progress.proofs.Noted.{missing_asked, noted_sent, once_from}
use Rattle.cw_progress.proofs.Outs.{filter_from, in_map, sends_answer, sent_done}
use Rattle.cw_progress.proofs.Rests.{first_found, first_none, noted_as, or_none, step_each}
use Rattle.cw_progress.proofs.Taken.{block_taken, cert_taken, part_from}
use Rattle.cw_progress.proofs.Tops.{cert_noted, held_first, held_same}
use Rattle.cw_progress.proofs.Valid.{noted_valid}

-- ---- a delivery

-- what a delivery of a message that was sent makes of the world
pub delivery_happens : (r : Rules) (w : World) (i j : ℕ) (n : Member) (o : Out) (s : IsSent w i o)
    → member_at w j ≡ Some n → n.live ≡ true → is_to j o.to ≡ true
    → happens r w (Do j (Ask.Deliver s.number))
    ≡ with_done w j (step r j (signed w) n (Event.Deliver o.message))
delivery_happens r w i j n o s at live to = ap (λ d. option_map_or (with_done w j) d w) by_member
  where
    line : Line
    line = Do j (Ask.Deliver s.number)

    given : message_for w j s.number ≡ Some o.message
    given =
        ap
        (option_and_then
        (λ (x : Sent). cond (is_to j x.to) (Some x.message) None)) s.there
        ∙ (ap (λ t. cond (is_to j t) (Some s.sent.message) None) s.to
        ∙ (cond-true (is_to j o.to) (Some s.sent.message) None to ∙ ap Some s.message))

    by_turn : turned r w j line n ≡ Some (step r j (signed w) n (Event.Deliver o.message))
    by_turn =
        ap
        (λ b. cond b (option_map (step r j (signed w) n) (event_of w j (Ask.Deliver s.number)))
        None) live
        ∙ ap (λ m. option_map (step r j (signed w) n) (option_map Event.Deliver m)) given

    by_member : done_by r w line ≡ Some (step r j (signed w) n (Event.Deliver o.message))
    by_member = ap (option_and_then (turned r w j line)) at ∙ by_turn

-- the member that stands in a world after its turn
pub member_done : (w : World) (j : ℕ) (n : Member) (done : Stepped) → member_at w j ≡ Some n
    → member_at (with_done w j done) j ≡ Some done.member
member_done w j n done at =
    member_is (with_done w j done) j done.member
    (get-set_same w.members j (Some done.member) (Some n) (member_there w j n at))

-- ---- a certificate

-- who is given a valid certificate notes one of its vote
pub cert_step : (r : Rules) (j : ℕ) (sign : ℕ → Vote → Bool) (n : Member) (s : Cert)
    → is_valid r sign s ≡ true
    → has_cert (member_notes (step r j sign n (Event.Deliver (Message.Cert s))).member) s.vote
    ≡ true
cert_step r j sign n s valid =
    subst (λ ns. has_cert ns s.vote ≡ true) (sym (frames_join n.frames notes))
    (cert_noted r j after s none (cert_taken n.came (is_valid r sign s) s valid))
  where
    e : Event
    e = Event.Deliver (Message.Cert s)

    during : State
    during = taken r sign (state_of n) e

    notes : List Note
    notes = step_notes r j during e

    after : State
    after = with_notes during notes

    none : first_some (cert_owed r j after) (named_votes after) ≡ None
    none =
        (or_none (first_some (cert_owed r j after) (named_votes after)) _
        (or_none (first_some (block_owed r after) (named_commitments r after)) _
        (step_ends r j during e)).1).0

pub cert_over : (r : Rules) (script : List Line) (w : World) → IsCluster r script
    → Reaches r script w → (i j : ℕ) (m n : Member) → member_at w i ≡ Some m → m.live ≡ true
    → member_at w j ≡ Some n → n.live ≡ true → (s : Cert) → In (Note.Cert s) (member_notes m)
    → ComesTo r w j is_delivery (λ notes. has_cert notes s.vote)
cert_over r script w cluster reach i j m n at live there ready s h = record {
  lines = Do j (Ask.Deliver sent.number) ∷ [];
  are = (refl, tt);
  after = done.member;
  there =
      ap (λ v. member_at v j)
      (delivery_happens r w i j n (to_all (Message.Cert s)) sent there ready refl)
      ∙ member_done w j n done there;
  live = refl;
  passes = cert_step r j (signed w) n s (noted_valid r script w cluster reach i m at live s h);
}
  where
    sent : IsSent w i (to_all (Message.Cert s))
    sent =
        noted_sent r script w cluster reach i m at live (Note.Cert s) (Message.Cert s) refl h

    done : Stepped
    done = step r j (signed w) n (Event.Deliver (Message.Cert s))

-- ---- a block

-- a block that is one of the notes is among them
pub block_has : (c : Commitment) (b : Block) (notes : List Note) → In (Note.Block c b) notes
    → has_block notes c ≡ true
block_has c b [] h = absurd h
block_has c b (n ∷ ns) (inl e) =
    or_left (is_block c n) (has_block ns c) (ap (is_block c) (sym e) ∙ same_commitment_self c)
block_has c b (n ∷ ns) (inr h) =
    or_right (is_block c n) (has_block ns c) (block_has c b ns h)

-- what is missing isn't noted, nor genesis
missing_tells : (r : Rules) (s : State) (c : Commitment) → In c (missing r s)
    → (has_block s.notes c ≡ false) × (same_commitment c (genesis_commitment r) ≡ false)
missing_tells r s c h =
    let a =
    filter_from (λ c. not (has_block s.notes c))
    (once (genesis_commitment r ∷ []) (filter_map (leads r s.notes (next s)) s.notes)) c h in
    let b =
    once_from (genesis_commitment r ∷ []) (filter_map (leads r s.notes (next s)) s.notes) c a.0
    in
    (not-true (has_block s.notes c) a.1, first_false (same_commitment c (genesis_commitment r)) b.1)
  where
    first_false : (t : Bool) → (t || false) ≡ false → t ≡ false
    first_false true e = e
    first_false false e = refl

-- a step that isn't asked to lets no block go
abbrev KeepsAll : List Note → Note → Type 0
KeepsAll before (Note.Prune h) = ⊥
KeepsAll before _ = Unit {0}

prune_kept : (before notes : List Note) → EachAfter KeepsAll before notes
    → filter_map pruned_height notes ≡ []
prune_kept before [] e = refl
prune_kept before (Note.Prune h ∷ ns) e = absurd e.0
prune_kept before (Note.Ack h ∷ ns) e = prune_kept (before ++ Note.Ack h ∷ []) ns e.1
prune_kept before (Note.Floor h ∷ ns) e = prune_kept (before ++ Note.Floor h ∷ []) ns e.1
prune_kept before (Note.Vote v ∷ ns) e = prune_kept (before ++ Note.Vote v ∷ []) ns e.1
prune_kept before (Note.Verified x v c ∷ ns) e =
    prune_kept (before ++ Note.Verified x v c ∷ []) ns e.1
prune_kept before (Note.Block c b ∷ ns) e = prune_kept (before ++ Note.Block c b ∷ []) ns e.1
prune_kept before (Note.Cert s ∷ ns) e = prune_kept (before ++ Note.Cert s ∷ []) ns e.1
prune_kept before (Note.Certified p ∷ ns) e =
    prune_kept (before ++ Note.Certified p ∷ []) ns e.1
prune_kept before (Note.Epoch x c ∷ ns) e = prune_kept (before ++ Note.Epoch x c ∷ []) ns e.1

pub delivery_keeps : (r : Rules) (id : ℕ) (s : State) (m : Message)
    → greatest_prune (s.notes ++ step_notes r id s (Event.Deliver m)) ≡ greatest_prune s.notes
delivery_keeps r id s m =
    ap greatest
    (filter_map-append pruned_height s.notes (step_notes r id s (Event.Deliver m))
    ∙ (ap (λ hs. filter_map pruned_height s.notes ++ hs)
    (prune_kept s.notes (step_notes r id s (Event.Deliver m)) all)
    ∙ append-nil (filter_map pruned_height s.notes)))
  where
    never : (h : ℕ) → Event.Deliver m ≡ Event.Prune h → ⊥
    never h e = cc

    all : EachAfter KeepsAll s.notes (step_notes r id s (Event.Deliver m))
    all =
        step_each KeepsAll r id s (Event.Deliver m) (record {
          of_block = λ ns c b. tt;
          of_verified = λ ns epoch view c. tt;
          of_notarize = λ ns p o. tt;
          of_finalize = λ ns p. tt;
          of_certified = λ ns p. tt;
          of_epoch = λ ns epoch c. tt;
          of_nullify = λ view is s. tt;
          of_ack = λ h s. tt;
          of_prune = λ h a is l o. never h is;
          of_cert = λ ns v signers h. tt;
          of_floor = λ ns c b a o n h. tt;
        })

module _ (r : Rules) (id : ℕ) (s : State) (m : Message) (c : Commitment) (a : Block)
    (is : shown r s.came c ≡ Some a) (named : In c (named_commitments r s)) where
  -- below this a member notes no block
  abbrev given_up : List Note → ℕ
  given_up notes = max (greatest_floor notes) (greatest_prune notes)

  -- where no block is owed this one is noted, or given up
  noted_or_low : (ns : List Note)
      → first_some (block_owed r (noted_as s ns)) (named_commitments r (noted_as s ns)) ≡ None
      → (has_block ns c ≡ true) ⊎ (a.height < given_up ns)
  noted_or_low ns none =
      let h = first_none (block_owed r (noted_as s ns)) (named_commitments r s) c none named in
      let wanted : when (not (has_block ns c) && nat_le (given_up ns) a.height) (Note.Block c a)
      ≡ None =
      sym
      (ap
      (option_and_then
      (λ (b : Block). when (not (has_block ns c) && nat_le (given_up ns) b.height)
      (Note.Block c b)))
      is)
      ∙ h in
      go (has_block ns c) refl (cases_Bool (nat_le (given_up ns) a.height)) wanted
    where
      go : (t : Bool) → has_block ns c ≡ t
          → (nat_le (given_up ns) a.height ≡ true) ⊎ (nat_le (given_up ns) a.height ≡ false)
          → when (not t && nat_le (given_up ns) a.height) (Note.Block c a) ≡ None
          → (has_block ns c ≡ true) ⊎ (a.height < given_up ns)
      go true e low h = inl e
      go false e (inl t) h =
          let x : when true (Note.Block c a) ≡ None =
          ap (λ b. when b (Note.Block c a)) (sym t) ∙ h in
          cc
      go false e (inr f) h = inr (omega (arith, leb-false (given_up ns) a.height f))

  -- a floor is noted only after this block, or where it is given up
  abbrev IsAfterBlock : List Note → Note → Type 0
  IsAfterBlock before (Note.Floor h) =
      (has_block before c ≡ true) ⊎ (a.height < given_up before)
  IsAfterBlock before (Note.Prune h) = ⊥
  IsAfterBlock before _ = Unit {0}

  -- so it is noted or not given up, all along
  abbrev IsIn : List Note → Type 0
  IsIn ns = (has_block ns c ≡ true) ⊎ (given_up ns ≤ a.height)

  same_up : (before : List Note) (n : Note) → filter_map floor_height (n ∷ []) ≡ []
      → filter_map pruned_height (n ∷ []) ≡ [] → IsIn before → IsIn (before ++ n ∷ [])
  same_up before n f p (inl h) = inl (any_front (is_block c) before (n ∷ []) h)
  same_up before n f p (inr le) =
      inr
      (omega (
        arith,
        le,
        ap greatest
            (filter_map-append floor_height before (n ∷ [])
            ∙ (ap (λ hs. filter_map floor_height before ++ hs) f
            ∙ append-nil (filter_map floor_height before))),
        ap greatest
            (filter_map-append pruned_height before (n ∷ [])
            ∙ (ap (λ hs. filter_map pruned_height before ++ hs) p
            ∙ append-nil (filter_map pruned_height before))),
      ))

  one_in : (before : List Note) (n : Note) → IsAfterBlock before n → IsIn before
      → IsIn (before ++ n ∷ [])
  one_in before (Note.Floor h) e (inl x) = inl (any_front (is_block c) before (Note.Floor h ∷ []) x)
  one_in before (Note.Floor h) (inl x) (inr le) =
      inl (any_front (is_block c) before (Note.Floor h ∷ []) x)
  one_in before (Note.Floor h) (inr low) (inr le) = absurd (omega (arith, low, le))
  one_in before (Note.Prune h) e x = absurd e
  one_in before (Note.Ack h) e x = same_up before (Note.Ack h) refl refl x
  one_in before (Note.Vote v) e x = same_up before (Note.Vote v) refl refl x
  one_in before (Note.Verified u v d) e x = same_up before (Note.Verified u v d) refl refl x
  one_in before (Note.Block d b) e x = same_up before (Note.Block d b) refl refl x
  one_in before (Note.Cert t) e x = same_up before (Note.Cert t) refl refl x
  one_in before (Note.Certified p) e x = same_up before (Note.Certified p) refl refl x
  one_in before (Note.Epoch u d) e x = same_up before (Note.Epoch u d) refl refl x

  all_in : (before notes : List Note) → EachAfter IsAfterBlock before notes → IsIn before
      → IsIn (before ++ notes)
  all_in before [] e x = subst IsIn (sym (append-nil before)) x
  all_in before (n ∷ ns) e x =
      subst IsIn (append_assoc before (n ∷ []) ns)
      (all_in (before ++ n ∷ []) ns e.1 (one_in before n e.0 x))

  after_block : EachAfter IsAfterBlock s.notes (step_notes r id s (Event.Deliver m))
  after_block =
      step_each IsAfterBlock r id s (Event.Deliver m) (record {
        of_block = λ ns c b. tt;
        of_verified = λ ns epoch view c. tt;
        of_notarize = λ ns p o. tt;
        of_finalize = λ ns p. tt;
        of_certified = λ ns p. tt;
        of_epoch = λ ns epoch c. tt;
        of_nullify = λ view is s. tt;
        of_ack = λ h s. tt;
        of_prune = λ h x e l o. never h e;
        of_cert = λ ns v signers h. tt;
        of_floor = λ ns d b at none certs h. noted_or_low ns none;
      })
    where
      never : (h : ℕ) → Event.Deliver m ≡ Event.Prune h → ⊥
      never h e = cc

  -- a step that is shown the block notes it, unless it was given up before
  pub comes_noted : given_up s.notes ≤ a.height
      → has_block (s.notes ++ step_notes r id s (Event.Deliver m)) c ≡ true
  comes_noted le =
      go (all_in s.notes (step_notes r id s (Event.Deliver m)) after_block (inr le))
      (noted_or_low (s.notes ++ step_notes r id s (Event.Deliver m))
      (or_none
      (first_some (block_owed r after) (named_commitments r after)) _
      (step_ends r id s (Event.Deliver m))).0)
    where
      after : State
      after = with_notes s (step_notes r id s (Event.Deliver m))

      all : List Note
      all = s.notes ++ step_notes r id s (Event.Deliver m)

      go : IsIn all → (has_block all c ≡ true) ⊎ (a.height < given_up all)
          → has_block all c ≡ true
      go (inl h) y = h
      go (inr x) (inl h) = h
      go (inr x) (inr y) = absurd (omega (arith, x, y))

-- where a block came whole, some block is shown under its commitment
pub shown_as : (r : Rules) (came : Came) (b : Block)
    → same_commitment (commit r b) (genesis_commitment r) ≡ false → In (Whole b) came.parts
    → (a : Block) × (shown r came (commit r b) ≡ Some a) × In (Whole a) came.parts
    × (commit r a ≡ commit r b)
shown_as r came b other at =
    go (shown_whole r came (commit r b)) refl
  where
    c : Commitment
    c = commit r b

    itself : whole_of r c (Whole b) ≡ Some b
    itself =
        cond-true (same_commitment (commit r b) c) (Some b) None
        (same_commitment_self (commit r b))

    by_part : (p : Part) (a : Block) → In p came.parts → whole_of r c p ≡ Some a
        → In (Whole a) came.parts × (commit r a ≡ c)
    by_part (Row d x) a at e = cc
    by_part (Whole x) a at e = by_test (cases_Bool (same_commitment (commit r x) c))
      where
        by_test : (same_commitment (commit r x) c ≡ true)
            ⊎ (same_commitment (commit r x) c ≡ false)
            → In (Whole a) came.parts × (commit r a ≡ c)
        by_test (inl t) =
            let same : x ≡ a =
            same_Some x a
            (sym (cond-true (same_commitment (commit r x) c) (Some x) None t) ∙ e) in (
              subst (λ y. In (Whole y) came.parts) same at,
              ap (commit r) (sym same) ∙ same_commitment-true (commit r x) c t,
            )
        by_test (inr f) =
            cc (cond-false (same_commitment (commit r x) c) (Some x) None f)

    by_travel : (t : Travel) (a : Block) → shown_whole r came c ≡ Some a
        → shown_by t r came c ≡ Some a
    by_travel Chunked a e = ap (λ o. option_or o (shown_by_rows r came c)) e
    by_travel Uncut a e =
        cond-false (same_commitment c (genesis_commitment r)) None (shown_whole r came c) other
        ∙ e

    nothing : ◌≡◌ {A = Option Block} None (Some b) → ⊥
    nothing e = cc

    go : (o : Option Block) → shown_whole r came c ≡ o
        → (a : Block) × (shown r came c ≡ Some a) × In (Whole a) came.parts × (commit r a ≡ c)
    go None e =
        absurd (nothing (sym (first_none (whole_of r c) came.parts (Whole b) e at) ∙ itself))
    go (Some a) e =
        let (p, there, f) = first_found (whole_of r c) came.parts a e in
        let x = by_part p a there f in
        (a, by_travel r.travel a e, x.0, x.1)

pub get_below : {X : Type 0} (xs : List X) (i : ℕ) (x : X) → slice_get xs i ≡ Some x → i < length xs
get_below [] i x h = cc
get_below (y ∷ ys) zero x h = omega arith
get_below (y ∷ ys) (suc i) x h = omega (arith, get_below ys i x h)

module _ (r : Rules) (script : List Line) (w : World) (cluster : IsCluster r script)
    (reach : Reaches r script w) (i j : ℕ) (m n : Member) (at : member_at w i ≡ Some m)
    (live : m.live ≡ true) (there : member_at w j ≡ Some n) (ready : n.live ≡ true)
    (c : Commitment) (misses : In c (missing r (state_of n))) (b : Block)
    (holds : held r (member_notes m) c ≡ Some b) where
  kept : IsWorldKept r script w
  kept = reached_kept r script w cluster reach

  other : same_commitment c (genesis_commitment r) ≡ false
  other = (missing_tells r (state_of n) c misses).1

  noted : In (Note.Block c b) (member_notes m)
  noted = first_in c (member_notes m) b (held_first r (member_notes m) c b other holds).0

  commits : commit r b ≡ c
  commits =
      let (before, rest, joined, k) =
      each_at (Keeps r (meaning r.epochs (members_of w))) [] (member_notes m) (Note.Block c b)
      (kept.each i m (member_there w i m at)).notes noted in
      k

  differ : i ≡ j → ⊥
  differ same =
      let one : m ≡ n = same_Some m n (sym at ∙ (ap (member_at w) same ∙ there)) in
      false≢true
      (sym (missing_tells r (state_of n) c misses).0
      ∙ (ap (λ (x : Member). has_block (member_notes x) c) (sym one)
      ∙ block_has c b (member_notes m) noted))

  -- the question goes to the holder
  asked : IsSent w j (to_all (Message.Ask j c))
  asked = missing_asked r script w cluster reach j n there ready c misses

  abbrev pub question : Event
  question = Event.Deliver (Message.Ask j c)

  abbrev pub asked_step : Stepped
  asked_step = step r i (signed w) m question

  abbrev during_asked : State
  during_asked = taken r (signed w) (state_of m) question

  abbrev asked_notes : List Note
  asked_notes = step_notes r i during_asked question

  abbrev pub block_out : Out
  block_out = record { to = To.One j; message = Message.Block b }

  pub answers : In block_out (answer r i (member_notes m ++ asked_notes) question)
  answers =
      subst (In block_out)
      (sym
      (cond-true (nat_lt j r.epochs.total && not (same_commitment c (genesis_commitment r)))
      (option_map_or (λ x. record { to = To.One j; message = Message.Block x } ∷ [])
      (held r (member_notes m ++ asked_notes) c) [])
      []
      (and_from (nat_lt j r.epochs.total) (not (same_commitment c (genesis_commitment r)))
      (lt-ltb j r.epochs.total
      (subst (λ x. j < x) (sym (length-mapped (option_map member_notes) w.members) ∙ kept.total)
      (get_below w.members j (Some n) (member_there w j n there))))
      (ap not other))))
      (subst
      (λ o. In block_out
      (option_map_or (λ x. record { to = To.One j; message = Message.Block x } ∷ []) o []))
      (sym
      (held_same r (member_notes m) asked_notes c b other holds
      (delivery_keeps r i during_asked (Message.Ask j c))))
      (inl refl))

  abbrev pub answered : World
  answered = with_done w i asked_step

  answer_sent : IsSent answered i block_out
  answer_sent =
      sent_done w i asked_step block_out
      (sends_answer r i (state_of m) (with_notes during_asked asked_notes) question asked_notes
      block_out answers)

  still : member_at answered j ≡ Some n
  still =
      member_is answered j n
      (get-set_other w.members i j (Some asked_step.member) (Some n) differ
      (member_there w j n there))

  -- and the block goes back
  abbrev brought : Event
  brought = Event.Deliver (Message.Block b)

  abbrev brought_step : Stepped
  brought_step = step r j (signed answered) n brought

  abbrev during_brought : State
  during_brought = taken r (signed answered) (state_of n) brought

  abbrev brought_notes : List Note
  brought_notes = step_notes r j during_brought brought

  goes : run r w (Do i (Ask.Deliver asked.number) ∷ Do j (Ask.Deliver answer_sent.number) ∷ [])
      ≡ with_done answered j brought_step
  goes =
      ap (λ v. happens r v (Do j (Ask.Deliver answer_sent.number)))
      (delivery_happens r w j i m (to_all (Message.Ask j c)) asked at live refl)
      ∙ delivery_happens r answered i j n block_out answer_sent still ready (eq-eqb j j refl)

  -- another block of that commitment came
  abbrev CameOther : Type 0
  CameOther = (a : Block) × In (Whole a) n.came.parts × (a ≢ b) × (commit r a ≡ c)

  given_over : has_block (member_notes n ++ brought_notes) c ≡ true
      → ComesTo r w j is_delivery (λ notes. has_block notes c)
  given_over h = record {
    lines = Do i (Ask.Deliver asked.number) ∷ Do j (Ask.Deliver answer_sent.number) ∷ [];
    are = (refl, (refl, tt));
    after = brought_step.member;
    there = ap (λ v. member_at v j) goes ∙ member_done answered j n brought_step still;
    live = refl;
    passes =
        subst (λ ns. has_block ns c ≡ true) (sym (frames_join n.frames brought_notes)) h;
  }

  pub block_over : max (greatest_floor (member_notes n)) (greatest_prune (member_notes n)) ≤ b.height
      → ComesTo r w j is_delivery (λ notes. has_block notes c) ⊎ CameOther
  block_over le =
      by_shown
      (shown_as r during_brought.came b
      (ap (λ x. same_commitment x (genesis_commitment r)) commits ∙ other)
      (block_taken n.came b))
    where
      named : In c (named_commitments r during_brought)
      named =
          subst (λ x. In x (named_commitments r during_brought)) commits
          (in_map (part_commitment r) during_brought.came.parts (Whole b)
          (block_taken n.came b))

      by_part : (a : Block) → (a ≡ b → ⊥) → commit r a ≡ c
          → In (Whole a) n.came.parts
          ⊎ ((Whole a ≡ Whole b) × (true ≡ true)
          × (list_any (same_part (Whole b)) n.came.parts ≡ false))
          → ComesTo r w j is_delivery (λ notes. has_block notes c) ⊎ CameOther
      by_part a not_it of (inl x) = inr (a, x, not_it, of)
      by_part a not_it of (inr (e, t, f)) = let one : a ≡ b = cc in absurd (not_it one)

      by_same : (a : Block) → shown r during_brought.came c ≡ Some a
          → In (Whole a) during_brought.came.parts → commit r a ≡ c
          → (same_block a b ≡ true) ⊎ (same_block a b ≡ false)
          → ComesTo r w j is_delivery (λ notes. has_block notes c) ⊎ CameOther
      by_same a is whole of (inl t) =
          inl
          (given_over
          (comes_noted r j during_brought (Message.Block b) c a is named
          (subst
          (λ (x : Block). max (greatest_floor (member_notes n))
          (greatest_prune (member_notes n))
          ≤ x.height)
          (sym (same_block-true a b t)) le)))
      by_same a is whole of (inr f) =
          by_part a (λ e. false≢true (sym f ∙ (ap (same_block a) (sym e) ∙ same_block_self a))) of
          (part_from n.came true (Whole b) (Whole a) whole)

      by_shown : ((a : Block) × (shown r during_brought.came (commit r b) ≡ Some a)
          × In (Whole a) during_brought.came.parts × (commit r a ≡ commit r b))
          → ComesTo r w j is_delivery (λ notes. has_block notes c) ⊎ CameOther
      by_shown (a, is, whole, of) =
          by_same a (ap (shown r during_brought.came) (sym commits) ∙ is) whole (of ∙ commits)
          (cases_Bool (same_block a b))
