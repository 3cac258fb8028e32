-- A certified proposal goes over to a member that holds what is settled for its parent view.
use Rattle.std.proofs.Common.{◌≡◌, ℕ, ◌≤◌, Bool, true, false, ◌&&◌, ◌||◌, ◌==◌, not, cond, max, List, [], ◌∷◌, ◌++◌, Option, Some, None, filter_map, find, length, option_map, slice_get, refl, sym, ◌∙◌, ap, subst, inl, inr, ◌⊎◌, arith, eq-eqb, eqb-true, append-nil}
use Rattle.std.specs.Option.{option_map_or, option_or}
use Rattle.std.proofs.lemmas.Bool.{and_from, cases_Bool, cond-true, cond-false, false≢true}
use Rattle.std.proofs.lemmas.Option.{same_Some}
use Rattle.cw_types.specs.declared.commitment.Commitment.{Commitment}
use Rattle.cw_types.specs.declared.event.Event.{Event}
use Rattle.cw_types.specs.declared.event.Out.{Out}
use Rattle.cw_types.specs.declared.event.To.{To}
use Rattle.cw_types.specs.declared.message.Message.{Message}
use Rattle.cw_types.specs.declared.note.Note.{Note}
use Rattle.cw_types.specs.declared.vote.Cert.{Cert}
use Rattle.cw_types.specs.declared.vote.Proposal.{Proposal}
use Rattle.cw_types.specs.declared.vote.Vote.{Vote}
use Rattle.cw_types.specs.declared.vote.Vote.TheVariants.{Notarize}
use Rattle.cw_types.specs.Block.{Block}
use Rattle.cw_types.specs.Same.{same_commitment}
use Rattle.cw_types.specs.Votes.{proposal_of}
use Rattle.cw_rules.specs.Accepted.{State, Whole, first_some}
use Rattle.cw_rules.specs.Chains.{block_under}
use Rattle.cw_rules.specs.Fits.{block_fits, fits, fits_over}
use Rattle.cw_rules.specs.Held.{greatest_floor, greatest_prune, held, kept_block, next, noted_block_of, shown}
use Rattle.cw_rules.specs.Keeps.{AllKeep, Keeps, meaning}
use Rattle.cw_rules.specs.Notes.{epoch_entered, epoch_parent, has_block, has_cert, has_certified, is_cert, settled, settler}
use Rattle.cw_rules.specs.Owed.{ballot_vote, block_owed, cert_owed, certified_owed, named_commitments, named_proposals, named_votes, note_proposal, part_commitment, when}
use Rattle.cw_rules.specs.Reached.{In, IsCluster, Reaches, ReachesClear, members_of}
use Rattle.cw_rules.specs.Rules.{Rules, commit, genesis, genesis_commitment}
use Rattle.cw_rules.specs.Sends.{leads, missing, once, to_all}
use Rattle.cw_rules.specs.Stands.{AreLawful}
use Rattle.cw_rules.specs.Step.{Member, member_notes, state_of, step, step_notes, taken, with_notes}
use Rattle.cw_rules.specs.World.{Line, World, member_at, signed, with_done}
use Rattle.cw_rules.proofs.Blocks.{NoClash, first_in, notes_in, under_commit, under_held, under_noted}
use Rattle.cw_rules.proofs.Certified.{Fitting, fitting}
use Rattle.cw_rules.proofs.Chain.{one_notarized, settler_stands}
use Rattle.cw_rules.proofs.Fits.{fit_positive}
use Rattle.cw_rules.proofs.Lists.{in_left, in_right, map_some}
use Rattle.cw_rules.proofs.NoteLemmas.{any_front, settler_tells}
use Rattle.cw_rules.proofs.Runs.{clear_entries}
use Rattle.cw_rules.proofs.Settles.{step_ends}
use Rattle.cw_rules.proofs.Worlds.{IsWorldKept, frames_join, get-map, kept_keep, kept_lawful, member_there}
use Rattle.cw_progress.specs.Going.{helps}
use Rattle.cw_progress.specs.Over.{ComesToClash}
use Rattle.cw_progress.proofs.Carries.{each_at}
use Rattle.cw_progress.proofs.Ends.{cert_note}
use Rattle.cw_progress.proofs.Finals.{settled_stays}
use Rattle.cw_progress.proofs.Noted.{in_once}
use Rattle.cw_progress.proofs.Outs.{IsNew, filter_in_list, in_map, mapped_from, mapped_in, new_done, sends_answer}
use Rattle.cw_progress.proofs.Over.{answers, comes_noted, shown_as}
use Rattle.cw_progress.proofs.Paths.{clear_reaches, clear_world}
use Rattle.cw_progress.proofs.Rests.{first_none, or_none}
use Rattle.cw_progress.proofs.Stages.{IsGiven, Later, Stage, cert_goes, delivered_later, giver_turn, later_both, later_held, later_in, later_same, later_settled, new_helps, stage_new, taker_turn}
use Rattle.cw_progress.proofs.Taken.{block_taken}
use Rattle.cw_progress.proofs.Tops.{first_held, held_first}

-- ---- notes

-- what a search finds
find_at : {X : Type 0} (t : X → Bool) (xs : List X) (x : X) → find t xs ≡ Some x
    → (t x ≡ true) × In x xs
find_at t [] x h = cc h
find_at {X} t (y ∷ ys) x h = go (cases_Bool (t y)) (find_at t ys x)
  where
    go : (t y ≡ true) ⊎ (t y ≡ false) → (find t ys ≡ Some x → (t x ≡ true) × In x ys)
        → (t x ≡ true) × In x (y ∷ ys)
    go (inl e) later =
        let same : y ≡ x = same_Some y x (sym (cond-true (t y) (Some y) (find t ys) e) ∙ h) in
        (subst (λ z. t z ≡ true) same e, inl (sym same))
    go (inr f) later =
        let k = later (sym (cond-false (t y) (Some y) (find t ys) f) ∙ h) in (k.0, inr k.1)

-- a note that enters an epoch
entered_note : (n : Note) (e : ℕ × Commitment) → epoch_entered n ≡ Some e
    → n ≡ Note.Epoch e.0 e.1
entered_note (Note.Epoch epoch c) e h =
    ap (λ (x : ℕ × Commitment). Note.Epoch x.0 x.1) (same_Some first e h)
  where
    first : ℕ × Commitment
    first = (epoch, c)
entered_note (Note.Vote v) e h = cc h
entered_note (Note.Verified epoch view c) e h = cc h
entered_note (Note.Block c b) e h = cc h
entered_note (Note.Cert s) e h = cc h
entered_note (Note.Certified p) e h = cc h
entered_note (Note.Ack x) e h = cc h
entered_note (Note.Floor x) e h = cc h
entered_note (Note.Prune x) e h = cc h

-- a block that is noted is found
pub block_found : (c : Commitment) (notes : List Note) → has_block notes c ≡ true
    → (b : Block) × (first_some (noted_block_of c) notes ≡ Some b)
block_found c [] h = absurd (false≢true h)
block_found c (Note.Block d b ∷ ns) h = go (same_commitment c d) h (block_found c ns)
  where
    go : (t : Bool) → (t || has_block ns c) ≡ true
        → (has_block ns c ≡ true → (x : Block) × (first_some (noted_block_of c) ns ≡ Some x))
        → (x : Block)
        × (option_or (cond t (Some b) None) (first_some (noted_block_of c) ns) ≡ Some x)
    go true h later = (b, refl)
    go false h later = later h
block_found c (Note.Vote v ∷ ns) h = block_found c ns h
block_found c (Note.Verified epoch view d ∷ ns) h = block_found c ns h
block_found c (Note.Cert s ∷ ns) h = block_found c ns h
block_found c (Note.Certified p ∷ ns) h = block_found c ns h
block_found c (Note.Ack x ∷ ns) h = block_found c ns h
block_found c (Note.Floor x ∷ ns) h = block_found c ns h
block_found c (Note.Prune x ∷ ns) h = block_found c ns h
block_found c (Note.Epoch epoch d ∷ ns) h = block_found c ns h

-- ---- a world without a clash

module _ (r : Rules) (script : List Line) (w : World) (cluster : IsCluster r script)
    (clear : ReachesClear r script w) where
  kept : IsWorldKept r script w
  kept = (clear_world r script w cluster clear).0

  pub one_each : NoClash r w
  one_each = (clear_world r script w cluster clear).1

  pub keeps : AllKeep r (members_of w)
  keeps = kept_keep r script w kept

  pub lawful : AreLawful r.epochs (block_fits r) (members_of w)
  lawful = kept_lawful r script w cluster kept

  pub notes_at : (i : ℕ) (m : Member) → member_at w i ≡ Some m
      → slice_get (members_of w) i ≡ Some (Some (member_notes m))
  notes_at i m at = get-map (option_map member_notes) w.members i (Some m) (member_there w i m at)

  -- the block that a member holds is the one of the commitment
  pub held_is : (i : ℕ) (m : Member) → member_at w i ≡ Some m → (before rest : List Note)
      → member_notes m ≡ before ++ rest → (c : Commitment) (b : Block)
      → held r before c ≡ Some b → block_under r w c ≡ Some b
  held_is i m at before rest joined =
      under_held r w keeps one_each i m before rest (member_there w i m at) joined

  -- so is the block that it noted
  pub noted_is : (i : ℕ) (m : Member) → member_at w i ≡ Some m → (c : Commitment) (b : Block)
      → In (Note.Block c b) (member_notes m) → block_under r w c ≡ Some b
  noted_is i m at c b h =
      under_noted r w keeps one_each c b
      (notes_in (Note.Block c b) w.members i m (member_there w i m at) h)

  -- what two members have settled for a view is the same
  pub settled_same : (i j : ℕ) (m n : Member) → member_at w i ≡ Some m → member_at w j ≡ Some n
      → (epoch view : ℕ) (c d : Commitment)
      → settled (genesis_commitment r) (member_notes m) epoch view ≡ Some c
      → settled (genesis_commitment r) (member_notes n) epoch view ≡ Some d → c ≡ d
  settled_same i j m n at there epoch view c d h k = go (cases_Bool (view == 0))
    where
      c0 : Commitment
      c0 = genesis_commitment r

      by_view : List Note → Option Commitment
      by_view notes = option_map (λ (p : Proposal). p.payload) (settler notes epoch view)

      by_entry : List Note → Option Commitment
      by_entry notes =
          option_map (λ (e : ℕ × Commitment). e.1)
          (find (λ (e : ℕ × Commitment). e.0 == epoch) (filter_map epoch_entered notes))

      -- a note that enters the epoch by that commitment
      entry : (notes : List Note) (x : Commitment) → by_entry notes ≡ Some x
          → In (Note.Epoch epoch x) notes
      entry notes x e =
          let (y, f, g) =
          map_some (λ (e : ℕ × Commitment). e.1)
          (find (λ (e : ℕ × Commitment). e.0 == epoch) (filter_map epoch_entered notes)) x e in
          let (t, within) =
          find_at (λ (e : ℕ × Commitment). e.0 == epoch) (filter_map epoch_entered notes) y f in
          let (z, inside, u) = mapped_from epoch_entered notes y within in
          subst (λ a. In (Note.Epoch epoch a) notes) g
          (subst (λ a. In (Note.Epoch a y.1) notes) (eqb-true y.0 epoch t)
          (subst (λ a. In a notes) (entered_note z y u) inside))

      by_first : (epoch_parent c0 (member_notes m) epoch ≡ Some c)
          → (epoch_parent c0 (member_notes n) epoch ≡ Some d)
          → ((epoch == 0) ≡ true) ⊎ ((epoch == 0) ≡ false) → c ≡ d
      by_first e f (inl t) =
          sym
          (same_Some c0 c
          (sym (cond-true (epoch == 0) (Some c0) (by_entry (member_notes m)) t) ∙ e))
          ∙ same_Some c0 d
          (sym (cond-true (epoch == 0) (Some c0) (by_entry (member_notes n)) t) ∙ f)
      by_first e f (inr t) =
          clear_entries r script w cluster clear i j (member_notes m) (member_notes n)
          (notes_at i m at) (notes_at j n there) epoch c d
          (entry (member_notes m) c
          (sym (cond-false (epoch == 0) (Some c0) (by_entry (member_notes m)) t) ∙ e))
          (entry (member_notes n) d
          (sym (cond-false (epoch == 0) (Some c0) (by_entry (member_notes n)) t) ∙ f))

      by_settler : (by_view (member_notes m) ≡ Some c) → (by_view (member_notes n) ≡ Some d)
          → c ≡ d
      by_settler e f =
          let (p, x, y) =
          map_some (λ (p : Proposal). p.payload) (settler (member_notes m) epoch view) c e in
          let (q, u, v) =
          map_some (λ (p : Proposal). p.payload) (settler (member_notes n) epoch view) d f in
          let s = settler_tells (member_notes m) epoch view p x in
          let t = settler_tells (member_notes n) epoch view q u in
          let same : p ≡ q =
          one_notarized r.epochs (block_fits r) (members_of w) lawful p q
          (settler_stands r.epochs (block_fits r) (members_of w) lawful (member_notes m)
          (lawful.honest i (member_notes m) (notes_at i m at)) epoch view p s)
          (settler_stands r.epochs (block_fits r) (members_of w) lawful (member_notes n)
          (lawful.honest j (member_notes n) (notes_at j n there)) epoch view q t)
          (s.0 ∙ sym t.0) (s.1 ∙ sym t.1) in
          sym y ∙ (ap (λ (p : Proposal). p.payload) same ∙ v)

      go : ((view == 0) ≡ true) ⊎ ((view == 0) ≡ false) → c ≡ d
      go (inl t) =
          by_first
          (sym
          (cond-true (view == 0) (epoch_parent c0 (member_notes m) epoch)
          (by_view (member_notes m)) t)
          ∙ h)
          (sym
          (cond-true (view == 0) (epoch_parent c0 (member_notes n) epoch)
          (by_view (member_notes n)) t)
          ∙ k)
          (cases_Bool (epoch == 0))
      go (inr f) =
          by_settler
          (sym
          (cond-false (view == 0) (epoch_parent c0 (member_notes m) epoch)
          (by_view (member_notes m)) f)
          ∙ h)
          (sym
          (cond-false (view == 0) (epoch_parent c0 (member_notes n) epoch)
          (by_view (member_notes n)) f)
          ∙ k)

  -- what a member has that certified a proposal, by the notes before that
  pub record Certifies (m : Member) (p : Proposal) : Type 0 where
    pub before : List Note
    pub rest : List Note
    pub joined : member_notes m ≡ before ++ rest
    pub cert : Cert
    pub noted : In (Note.Cert cert) before
    pub votes : cert.vote ≡ Notarize p
    pub fitted : Fitting r before p

  pub certifies : (i : ℕ) (m : Member) → member_at w i ≡ Some m → (p : Proposal)
      → In (Note.Certified p) (member_notes m) → Certifies m p
  certifies i m at p h =
      let (before, rest, joined, k) =
      each_at (Keeps r (meaning r.epochs (members_of w))) [] (member_notes m)
      (Note.Certified p) (keeps i (member_notes m) (notes_at i m at)) h in
      let (t, noted, votes) = cert_note (Notarize p) before k.0 in
      record {
        before = before;
        rest = Note.Certified p ∷ rest;
        joined = joined;
        cert = t;
        noted = noted;
        votes = votes;
        fitted = fitting r before p k.1;
      }

  -- the block of such a proposal isn't genesis
  pub fitted_other : (before : List Note) (p : Proposal) → Fitting r before p
      → same_commitment p.payload (genesis_commitment r) ≡ false
  fitted_other before p f = go (cases_Bool (same_commitment p.payload (genesis_commitment r)))
    where
      go : (same_commitment p.payload (genesis_commitment r) ≡ true)
          ⊎ (same_commitment p.payload (genesis_commitment r) ≡ false)
          → same_commitment p.payload (genesis_commitment r) ≡ false
      go (inr e) = e
      go (inl t) =
          let one : genesis r ≡ f.block =
          same_Some (genesis r) f.block
          (sym
          (cond-true (same_commitment p.payload (genesis_commitment r)) (Some (genesis r))
          (kept_block before p.payload) t)
          ∙ f.holds) in
          let high = ap (λ (x : Block). x.height) one in
          absurd
          (omega (
            arith,
            high,
            fit_positive r cluster.spans p f.block f.over f.parent f.fit,
          ))

-- ---- what a step comes to

-- a member that has a certificate to notarize a proposal, and a block that fits, has certified it
pub step_certifies : (r : Rules) (id : ℕ) (sign : ℕ → Vote → Bool) (n : Member) (e : Event)
    (p : Proposal)
    → has_cert (member_notes (step r id sign n e).member) (Notarize p) ≡ true
    → block_fits r (member_notes (step r id sign n e).member) p ≡ true
    → has_certified (member_notes (step r id sign n e).member) p ≡ true
step_certifies r id sign n e p cert fit =
    go (has_certified all p) refl
    (first_none (certified_owed r done) (named_proposals done) p none named)
  where
    done : State
    done = state_of (step r id sign n e).member

    all : List Note
    all = member_notes (step r id sign n e).member

    during : State
    during = taken r sign (state_of n) e

    ended : State
    ended = with_notes during (step_notes r id during e)

    none_ended : first_some (certified_owed r ended) (named_proposals ended) ≡ None
    none_ended =
        (or_none (first_some (certified_owed r ended) (named_proposals ended)) _
        (or_none (first_some (cert_owed r id ended) (named_votes ended)) _
        (or_none (first_some (block_owed r ended) (named_commitments r ended)) _
        (step_ends r id during e)).1).1).0

    as_notes : List Note → State
    as_notes ns = record { notes = ns; came = during.came; given = n.given }

    none : first_some (certified_owed r done) (named_proposals done) ≡ None
    none =
        subst
        (λ ns. first_some (certified_owed r (as_notes ns)) (named_proposals (as_notes ns)) ≡ None)
        (sym (frames_join n.frames (step_notes r id during e))) none_ended

    named : In p (named_proposals done)
    named =
        let (t, at, votes) = cert_note (Notarize p) all cert in
        in_right p (filter_map (λ x. proposal_of (ballot_vote x)) done.came.ballots)
        (filter_map note_proposal all)
        (mapped_in note_proposal all (Note.Cert t) p at (ap proposal_of votes))

    go : (b : Bool) → has_certified all p ≡ b
        → when (has_cert all (Notarize p) && not b && block_fits r all p) (Note.Certified p)
        ≡ None
        → has_certified all p ≡ true
    go true f h = f
    go false f h =
        let x : when true (Note.Certified p) ≡ None =
        ap (λ t. when t (Note.Certified p))
        (sym
        (and_from (has_cert all (Notarize p) && true) (block_fits r all p)
        (and_from (has_cert all (Notarize p)) true cert refl) fit))
        ∙ h in
        cc x

-- ---- a block goes over

-- after some lines the taker holds the block, and was given something last
pub record HasBlock (r : Rules) (w : World) (payload : List ℕ) (i j : ℕ) (xs ys : List Note)
    (c : Commitment) (b : Block) (front : List Note) : Type 0 where
  pub world : World
  pub giver : Member
  pub before : Member
  pub sign : ℕ → Vote → Bool
  pub event : Event
  pub stage : Stage r w payload i j xs ys world giver (step r j sign before event).member
  pub later : Later front (member_notes (step r j sign before event).member)
  pub holds : held r (member_notes (step r j sign before event).member) c ≡ Some b

module _ (r : Rules) (w : World) (payload : List ℕ) (i j : ℕ) (differ : i ≡ j → ⊥)
    (xs ys : List Note) (c : Commitment) (b : Block) (holds : held r xs c ≡ Some b)
    (low : max (greatest_floor ys) (greatest_prune ys) ≤ b.height)
    (other : same_commitment c (genesis_commitment r) ≡ false) (commits : commit r b ≡ c) where
  abbrev IsOver : List Note → Type 0
  IsOver front =
      HasBlock r w payload i j xs ys c b front ⊎ ComesToClash r w (helps w payload)

  abbrev IsAt : World → Member → Member → Type 0
  IsAt u m n = Stage r w payload i j xs ys u m n

  -- the giver holds it still
  holds_still : (u : World) (m n : Member) → IsAt u m n → held r (member_notes m) c ≡ Some b
  holds_still u m n s = later_held r xs (member_notes m) s.gives_more c b holds

  -- the taker noted it
  finish : (u : World) (m n : Member) (sign : ℕ → Vote → Bool) (e : Event) (front : List Note)
      → IsAt u m (step r j sign n e).member
      → Later front (member_notes (step r j sign n e).member)
      → has_block (member_notes (step r j sign n e).member) c ≡ true → IsOver front
  finish u m n sign e front s later there =
      inl (record {
        world = u;
        giver = m;
        before = n;
        sign = sign;
        event = e;
        stage = s;
        later = later;
        holds = keeps_it;
      })
    where
      after : Member
      after = (step r j sign n e).member

      notes : List Note
      notes = member_notes after

      keeps_it : held r notes c ≡ Some b
      keeps_it =
          let (x, first) = block_found c notes there in
          let same : x ≡ b =
          same_Some x b
          (sym
          (noted_is r s.path.script u s.path.cluster s.path.clear j after s.takes_at c x
          (first_in c notes x first))
          ∙ held_is r s.path.script u s.path.cluster s.path.clear i m s.gives_at xs
          s.gives_more.more s.gives_more.joined c b holds) in
          let prune : greatest_prune notes ≡ greatest_prune ys = s.takes_more.prune in
          first_held r notes c b other (first ∙ ap Some same) (omega (arith, low, prune))

  -- the block that the taker is sent
  abbrev block_for : Out
  block_for = record { to = To.One j; message = Message.Block b }

  brought : (u : World) (m n : Member) (front : List Note) → IsAt u m n
      → Later front (member_notes n) → IsNew (length w.pool) u i block_for → IsOver front
  brought u m n front s more new =
      go
      (taker_turn r w payload i j differ xs ys u m n s i block_for new.sent (eq-eqb j j refl)
      (new_helps w payload u i j block_for new) (λ x e. (c, by_block x e)) tt)
    where
      e : Event
      e = Event.Deliver (Message.Block b)

      during : State
      during = taken r (signed u) (state_of n) e

      after : Member
      after = (step r j (signed u) n e).member

      noted : In (Note.Block c b) (member_notes m)
      noted =
          first_in c (member_notes m) b
          (held_first r (member_notes m) c b other (holds_still u m n s)).0

      by_block : (x : Block) → Message.Block b ≡ Message.Block x
          → In (Note.Block c x) (member_notes m)
      by_block x e =
          let same : b ≡ x = cc e in
          subst (λ y. In (Note.Block c y) (member_notes m)) same noted

      later : Later (member_notes n) (member_notes after)
      later = delivered_later r j (signed u) n (Message.Block b)

      -- what came of that commitment is that block
      same_as : IsAt (with_done u j (step r j (signed u) n e)) m after → (x : Block)
          → IsGiven m x → commit r x ≡ c → x ≡ b
      same_as t x (d, h) of =
          one_each r t.path.script (with_done u j (step r j (signed u) n e)) t.path.cluster
          t.path.clear x b
          (inr (
            d,
            notes_in (Note.Block d x) (with_done u j (step r j (signed u) n e)).members i m
                (member_there (with_done u j (step r j (signed u) n e)) i m t.gives_at) h,
          ))
          (inr (
            c,
            notes_in (Note.Block c b) (with_done u j (step r j (signed u) n e)).members i m
                (member_there (with_done u j (step r j (signed u) n e)) i m t.gives_at) noted,
          ))
          (ap (λ (y : Commitment). y.block) (of ∙ sym commits))

      has_it : IsAt (with_done u j (step r j (signed u) n e)) m after
          → ((x : Block) × (shown r during.came (commit r b) ≡ Some x)
          × In (Whole x) during.came.parts × (commit r x ≡ commit r b))
          → has_block (member_notes after) c ≡ true
      has_it t (x, is, whole, of) =
          let same : x ≡ b = same_as t x (t.takes_parts x whole) (of ∙ commits) in
          subst (λ ns. has_block ns c ≡ true)
          (sym (frames_join n.frames (step_notes r j during e)))
          (comes_noted r j during (Message.Block b) c x
          (ap (shown r during.came) (sym commits) ∙ is)
          (subst (λ y. In y (named_commitments r during)) commits
          (in_map (part_commitment r) during.came.parts (Whole b) (block_taken n.came b)))
          (subst
          (λ (y : Block). max (greatest_floor (member_notes n)) (greatest_prune (member_notes n))
          ≤ y.height)
          (sym same) (omega (arith, low, s.takes_floor, s.takes_more.prune))))

      go : IsAt (with_done u j (step r j (signed u) n e)) m after
          ⊎ ComesToClash r w (helps w payload)
          → IsOver front
      go (inr clash) = inr clash
      go (inl t) =
          finish (with_done u j (step r j (signed u) n e)) m n (signed u) e front t
          (later_both front (member_notes n) (member_notes after) more later)
          (has_it t
          (shown_as r during.came b
          (ap (λ x. same_commitment x (genesis_commitment r)) commits ∙ other)
          (block_taken n.came b)))

  -- the taker asks for the block that it misses
  wanted : (u : World) (m n : Member) → IsAt u m n → (t : Cert)
      → In (Note.Cert t) (member_notes n) → (p : Proposal) → proposal_of t.vote ≡ Some p
      → p.payload ≡ c → has_block (member_notes n) c ≡ false → IsOver (member_notes n)
  wanted u m n s t at p votes pays lacks =
      go
      (giver_turn r w payload i j differ xs ys u m n s j (to_all (Message.Ask j c)) asks.sent refl
      (new_helps w payload u j i (to_all (Message.Ask j c)) asks) tt)
    where
      reach : Reaches r s.path.script u
      reach = clear_reaches r s.path.script u s.path.clear

      g : Commitment
      g = genesis_commitment r

      notes : List Note
      notes = member_notes n

      led : List Commitment
      led = filter_map (leads r notes (next (state_of n))) notes

      misses : In c (missing r (state_of n))
      misses =
          filter_in_list (λ x. not (has_block notes x)) (once (g ∷ []) led) c
          (in_once (g ∷ []) led c
          (mapped_in (leads r notes (next (state_of n))) notes (Note.Cert t) c at
          (ap (option_map (λ (q : Proposal). q.payload)) votes ∙ ap Some pays))
          (ap (λ t. t || false) other))
          (ap not lacks)

      asks : IsNew (length w.pool) u j (to_all (Message.Ask j c))
      asks = s.takes_asks c misses

      e : Event
      e = Event.Deliver (Message.Ask j c)

      during : State
      during = taken r (signed u) (state_of m) e

      written : List Note
      written = step_notes r i during e

      answer_new : IsNew (length u.pool) (with_done u i (step r i (signed u) m e)) i block_for
      answer_new =
          new_done u i (step r i (signed u) m e) block_for
          (sends_answer r i (state_of m) (with_notes during written) e written block_for
          (answers r s.path.script u s.path.cluster reach i j m n s.gives_at s.gives_live
          s.takes_at s.takes_live c misses b (holds_still u m n s)))

      go : IsAt (with_done u i (step r i (signed u) m e)) (step r i (signed u) m e).member n
          ⊎ ComesToClash r w (helps w payload)
          → IsOver (member_notes n)
      go (inr clash) = inr clash
      go (inl t) =
          brought (with_done u i (step r i (signed u) m e)) (step r i (signed u) m e).member n
          notes t (later_same notes)
          (stage_new r w payload i j differ xs ys u m n s
          (with_done u i (step r i (signed u) m e)) i block_for answer_new)

  -- who was given a certificate of a proposal with that payload comes to hold the block
  pub block_goes : (u : World) (m n : Member) (sign : ℕ → Vote → Bool) (e : Event)
      → IsAt u m (step r j sign n e).member → (v : Vote)
      → has_cert (member_notes (step r j sign n e).member) v ≡ true → (p : Proposal)
      → proposal_of v ≡ Some p → p.payload ≡ c
      → IsOver (member_notes (step r j sign n e).member)
  block_goes u m n sign e s v cert p votes pays =
      go (cases_Bool (has_block (member_notes after) c))
    where
      after : Member
      after = (step r j sign n e).member

      go : (has_block (member_notes after) c ≡ true) ⊎ (has_block (member_notes after) c ≡ false)
          → IsOver (member_notes after)
      go (inl h) =
          finish u m n sign e (member_notes after) s (later_same (member_notes after)) h
      go (inr h) =
          let (t, at, same) = cert_note v (member_notes after) cert in
          wanted u m after s t at p (ap proposal_of same ∙ votes) pays h

-- ---- a proposal goes over

-- after some lines the taker has certified the proposal, and holds its block
pub record HasOver (r : Rules) (w : World) (payload : List ℕ) (i j : ℕ) (xs ys : List Note)
    (p : Proposal) (b : Block) : Type 0 where
  pub world : World
  pub giver : Member
  pub taker : Member
  pub stage : Stage r w payload i j xs ys world giver taker
  pub certified : has_certified (member_notes taker) p ≡ true
  pub held_there : held r (member_notes taker) p.payload ≡ Some b

-- a certified proposal goes over to a member that holds what is settled for its parent view
pub one_over : (r : Rules) (w : World) (payload : List ℕ) (i j : ℕ) (differ : i ≡ j → ⊥)
    (xs ys : List Note) (p : Proposal) (said : In (Note.Certified p) xs) (b : Block)
    (holds : held r xs p.payload ≡ Some b)
    (low : max (greatest_floor ys) (greatest_prune ys) ≤ b.height) (u : World) (m n : Member)
    → Stage r w payload i j xs ys u m n → (c : Commitment) (a : Block)
    → settled (genesis_commitment r) (member_notes n) p.epoch p.parent ≡ Some c
    → held r (member_notes n) c ≡ Some a
    → HasOver r w payload i j xs ys p b ⊎ ComesToClash r w (helps w payload)
one_over r w payload i j differ xs ys p said b holds low u m n s c a settles parent =
    by_source
    (certifies r script u cluster clear i m s.gives_at p
    (later_in xs (member_notes m) s.gives_more (Note.Certified p) said))
  where
    script : List Line
    script = s.path.script

    cluster : IsCluster r script
    cluster = s.path.cluster

    clear : ReachesClear r script u
    clear = s.path.clear

    IsCertified : Type 0
    IsCertified = HasOver r w payload i j xs ys p b ⊎ ComesToClash r w (helps w payload)

    under : block_under r u p.payload ≡ Some b
    under =
        held_is r script u cluster clear i m s.gives_at xs s.gives_more.more s.gives_more.joined
        p.payload b holds

    by_source : Certifies r script u cluster clear m p → IsCertified
    by_source k = go (cert_goes r w payload i j differ xs ys u m n s k.cert noted)
      where
        f : Fitting r k.before p
        f = k.fitted

        noted : In (Note.Cert k.cert) (member_notes m)
        noted =
            subst (In (Note.Cert k.cert)) (sym k.joined)
            (in_left (Note.Cert k.cert) k.before k.rest k.noted)

        same_block : f.block ≡ b
        same_block =
            same_Some f.block b
            (sym
            (held_is r script u cluster clear i m s.gives_at k.before k.rest k.joined p.payload
            f.block f.holds)
            ∙ under)

        same_over : f.over ≡ c
        same_over =
            settled_same r script u cluster clear i j m n s.gives_at s.takes_at p.epoch p.parent
            f.over c
            (subst (λ ns. settled (genesis_commitment r) ns p.epoch p.parent ≡ Some f.over)
            (sym k.joined)
            (settled_stays (genesis_commitment r) k.before k.rest p.epoch p.parent f.over
            f.settles))
            settles

        same_parent : f.parent ≡ a
        same_parent =
            same_Some f.parent a
            (sym
            (held_is r script u cluster clear i m s.gives_at k.before k.rest k.joined f.over
            f.parent f.holds_parent)
            ∙ (ap (block_under r u) same_over
            ∙ held_is r script u cluster clear j n s.takes_at (member_notes n) []
            (sym (append-nil (member_notes n))) c a parent))

        fit : fits_over r p b c a ≡ true
        fit =
            subst (λ x. fits_over r p b c x ≡ true) same_parent
            (subst (λ x. fits_over r p b x f.parent ≡ true) same_over
            (subst (λ x. fits_over r p x f.over f.parent ≡ true) same_block f.fit))

        e : Event
        e = Event.Deliver (Message.Cert k.cert)

        after : Member
        after = (step r j (signed u) n e).member

        later : Later (member_notes n) (member_notes after)
        later = delivered_later r j (signed u) n (Message.Cert k.cert)

        -- with the block it certifies
        by_block : has_cert (member_notes after) (Notarize p) ≡ true
            → HasBlock r w payload i j xs ys p.payload b (member_notes after)
            ⊎ ComesToClash r w (helps w payload)
            → IsCertified
        by_block cert (inr clash) = inr clash
        by_block cert (inl h) =
            inl (record {
              world = h.world;
              giver = h.giver;
              taker = (step r j h.sign h.before h.event).member;
              stage = h.stage;
              certified =
                  step_certifies r j h.sign h.before h.event p
                  (subst (λ ns. has_cert ns (Notarize p) ≡ true) (sym h.later.joined)
                  (any_front (is_cert (Notarize p)) (member_notes after) h.later.more cert))
                  (fits_there (member_notes (step r j h.sign h.before h.event).member)
                  (later_both (member_notes n) (member_notes after)
                  (member_notes (step r j h.sign h.before h.event).member) later h.later)
                  h.holds);
              held_there = h.holds;
            })
          where
            fits_there : (notes : List Note) → Later (member_notes n) notes
                → held r notes p.payload ≡ Some b → block_fits r notes p ≡ true
            fits_there notes more there =
                ap (λ o. option_map_or (fits r notes p) o false) there
                ∙ (ap
                (λ o. option_map_or
                (λ c. option_map_or (fits_over r p b c) (held r notes c) false) o false)
                (later_settled (genesis_commitment r) (member_notes n) notes more p.epoch
                p.parent c settles)
                ∙ (ap (λ o. option_map_or (fits_over r p b c) o false)
                (later_held r (member_notes n) notes more c a parent)
                ∙ fit))

        go : (Stage r w payload i j xs ys (with_done u j (step r j (signed u) n e)) m after
            × (has_cert (member_notes after) k.cert.vote ≡ true))
            ⊎ ComesToClash r w (helps w payload)
            → IsCertified
        go (inr clash) = inr clash
        go (inl (t, h)) =
            let cert : has_cert (member_notes after) (Notarize p) ≡ true =
            subst (λ v. has_cert (member_notes after) v ≡ true) k.votes h in
            by_block cert
            (block_goes r w payload i j differ xs ys p.payload b holds low
            (fitted_other r script u cluster clear k.before p f)
            (under_commit r u (keeps r script u cluster clear) (one_each r script u cluster clear)
            p.payload b under (fit_positive r cluster.spans p b c a fit))
            (with_done u j (step r j (signed u) n e)) m n (signed u) e t (Notarize p) cert p refl
            refl)
