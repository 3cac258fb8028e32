-- What is certified lies over its epoch's base: genesis, or what was finalized last before.
use Rattle.std.proofs.Common.{◌≡◌, ℕ, zero, suc, ◌+◌, ◌-◌, ◌*◌, ◌<◌, ◌≤◌, true, false, ◌||◌, ◌==◌, cond, find, List, [], ◌∷◌, ◌++◌, Option, Some, None, slice_get, refl, sym, ◌∙◌, ap, subst, inl, inr, ◌⊎◌, arith, eqb-true, ne_eqb, option_and_then, option_map, filter_map, append_assoc, le-leb, nat_le}
use Rattle.std.specs.List.{list_any, cons_option, AllByRecursion}
use Rattle.std.specs.Option.{option_map_or}
use Rattle.std.proofs.lemmas.Bool.{or_left, or_right, false≢true, cases_Bool, cases_order, cond-true, cond-false}
use Rattle.std.proofs.lemmas.Option.{same_Some}
use Rattle.cw_types.specs.declared.commitment.Commitment.{Commitment}
use Rattle.cw_types.specs.declared.note.Note.{Note}
use Rattle.cw_types.specs.declared.vote.Proposal.{Proposal}
use Rattle.cw_types.specs.declared.vote.Vote.{Vote}
use Rattle.cw_types.specs.declared.vote.Vote.TheVariants.{Finalize, Notarize, Nullify}
use Rattle.cw_types.specs.Block.{Block}
use Rattle.cw_types.specs.Epochs.{Epochs, is_last, is_within}
use Rattle.cw_types.specs.Same.{same_commitment, same_proposal, same_vote}
use Rattle.cw_types.specs.Votes.{finalized}
use Rattle.cw_rules.specs.Accepted.{first_some}
use Rattle.cw_rules.specs.Chains.{all_notes, block_under, certifies, is_certified_in}
use Rattle.cw_rules.specs.Fits.{block_fits}
use Rattle.cw_rules.specs.Held.{at_height, finalization_of, held, parent_of, reached}
use Rattle.cw_rules.specs.Keeps.{AllKeep, IsCertifiedIn, IsEntered, Keeps, meaning}
use Rattle.cw_rules.specs.Notes.{epoch_entered, has_cert, has_certified, is_cert, is_certified, epoch_parent, settled, settler}
use Rattle.cw_rules.specs.Reached.{AllAnchored, In, IsAnchored, members_of}
use Rattle.cw_rules.specs.Rules.{Rules, commit, genesis, genesis_commitment}
use Rattle.cw_rules.specs.Stands.{AreLawful, EachAfter, Members, Stands}
use Rattle.cw_rules.specs.Step.{Member, member_notes}
use Rattle.cw_rules.specs.World.{World}
use Rattle.cw_types.proofs.Same.{same_commitment_self, same_vote_self, same_proposal-true}
use Rattle.cw_rules.proofs.Lists.{first_some_at, and_then_some, map_some, in_left}
use Rattle.cw_rules.proofs.NoteLemmas.{any_front, Settles, settler_tells}
use Rattle.cw_rules.proofs.Chain.{certified_rests, finalized_notarized, notarized_below}
use Rattle.cw_rules.proofs.Fits.{Fit, New, Again, fit_cases, fit_positive, IsSpanned, last_is, within_is, plus_mul, mul_more}
use Rattle.cw_rules.proofs.Certified.{certified_at, certified_in, finalized_in}
use Rattle.cw_rules.proofs.Blocks.{NoClash, under_held, under_commit, DownTo, down_height, down_same, down_split}

-- what holds of each note holds of one that is there, by the notes before it
pub each_split : (R : List Note → Note → Type 0) (start notes : List Note) (n : Note)
    → EachAfter R start notes → In n notes
    → (front rest : List Note) × (start ++ notes ≡ front ++ rest) × R front n
each_split R start [] n e h = absurd h
each_split R start (x ∷ xs) n e (inl s) = (start, x ∷ xs, refl, subst (R start) (sym s) e.0)
each_split R start (x ∷ xs) n e (inr h) =
    let (front, rest, joined, holds) = each_split R (start ++ x ∷ []) xs n e.1 h in
    (front, rest, sym (append_assoc start (x ∷ []) xs) ∙ joined, holds)

-- the entry that is found is that of a note
found_entry : (notes : List Note) (epoch : ℕ) (e : ℕ × Commitment)
    → find (λ e. e.0 == epoch) (filter_map epoch_entered notes) ≡ Some e
    → In (Note.Epoch epoch e.1) notes
found_entry [] epoch e h = cc
found_entry (Note.Epoch d c ∷ notes) epoch e h =
    go (cases_Bool (d == epoch)) (found_entry notes epoch e)
  where
    rest : Option (ℕ × Commitment)
    rest = find (λ e. e.0 == epoch) (filter_map epoch_entered notes)

    first : ℕ × Commitment
    first = (d, c)

    go : ((d == epoch) ≡ true) ⊎ ((d == epoch) ≡ false)
        → (rest ≡ Some e → In (Note.Epoch epoch e.1) notes)
        → In (Note.Epoch epoch e.1) (Note.Epoch d c ∷ notes)
    go (inl t) later =
        let s : first ≡ e =
        same_Some first e (sym (cond-true (d == epoch) (Some first) rest t) ∙ h) in
        let f : epoch ≡ d = sym (eqb-true d epoch t) in
        let g : e.1 ≡ c = sym (ap (λ (y : ℕ × Commitment). y.1) s) in
        inl (λ i. Note.Epoch (f i) (g i))
    go (inr f) later = inr (later (sym (cond-false (d == epoch) (Some first) rest f) ∙ h))
found_entry (_ ∷ notes) epoch e h = inr (found_entry notes epoch e h)

-- a member's notes once, and those of now
pub record IsFrontOf (w : World) (i : ℕ) (notes : List Note) : Type 0 where
  pub member : Member
  pub rest : List Note
  pub at : slice_get w.members i ≡ Some (Some member)
  pub joined : member_notes member ≡ notes ++ rest

-- members M as they were at some time in the run of a world w without a clash: their notes are
-- fronts of those in w
module _ (r : Rules) (w : World)
    (spans : IsSpanned r.epochs) (keepw : AllKeep r (members_of w)) (clear : NoClash r w)
    (M : Members) (l : AreLawful r.epochs (block_fits r) M) (keep : AllKeep r M)
    (fronts : (i : ℕ) (notes : List Note) → slice_get M i ≡ Some (Some notes)
    → IsFrontOf w i notes) where
  abbrev x : Epochs
  x = r.epochs

  -- what an honest member held once is the block under its commitment
  pub held_under : (i : ℕ) (notes before rest : List Note) → slice_get M i ≡ Some (Some notes)
      → notes ≡ before ++ rest → (c : Commitment) (b : Block) → held r before c ≡ Some b
      → block_under r w c ≡ Some b
  held_under i notes before rest at joined c b h =
      let f = fronts i notes at in
      under_held r w keepw clear i f.member before (rest ++ f.rest) f.at
      (f.joined ∙ (ap (λ ns. ns ++ f.rest) joined ∙ append_assoc before rest f.rest)) c b h

  pub genesis_under : block_under r w (genesis_commitment r) ≡ Some (genesis r)
  genesis_under =
      cond-true (same_commitment (genesis_commitment r) (genesis_commitment r)) (Some (genesis r))
      (first_some _ (all_notes w)) (same_commitment_self (genesis_commitment r))

  -- a proposal that an honest member certified is certified in the world
  certifies_in : (notes : List Note) (p : Proposal) (c : Commitment) → p.payload ≡ c
      → has_certified notes p ≡ true → list_any (certifies c) notes ≡ true
  certifies_in [] p c e h = absurd (false≢true h)
  certifies_in (Note.Certified q ∷ notes) p c e h =
      go (cases_Bool (same_proposal p q)) h (certifies_in notes p c e)
    where
      go : (same_proposal p q ≡ true) ⊎ (same_proposal p q ≡ false)
          → (same_proposal p q || has_certified notes p) ≡ true
          → (has_certified notes p ≡ true → list_any (certifies c) notes ≡ true)
          → (same_commitment q.payload c || list_any (certifies c) notes) ≡ true
      go (inl t) h later =
          or_left (same_commitment q.payload c) (list_any (certifies c) notes)
          (subst (λ x. same_commitment x c ≡ true)
          (sym e ∙ ap (λ (x : Proposal). x.payload) (same_proposal-true p q t))
          (same_commitment_self c))
      go (inr f) h later =
          or_right (same_commitment q.payload c) (list_any (certifies c) notes)
          (later (sym (ap (λ b. b || has_certified notes p) f) ∙ h))
  certifies_in (_ ∷ notes) p c e h = certifies_in notes p c e h

  world_certified : (ms : List (Option Member)) (i : ℕ) (m : Member) (p : Proposal) (c : Commitment)
      → p.payload ≡ c → slice_get ms i ≡ Some (Some m) → has_certified (member_notes m) p ≡ true
      → list_any (λ o. option_map_or (λ m. list_any (certifies c) (member_notes m)) o false) ms
      ≡ true
  world_certified [] i m p c e at h = cc
  world_certified (None ∷ ms) zero m p c e at h = cc
  world_certified (Some n ∷ ms) zero m p c e at h =
      let s : n ≡ m = cc in
      or_left (list_any (certifies c) (member_notes n)) _
      (certifies_in (member_notes n) p c e
      (subst (λ (y : Member). has_certified (member_notes y) p ≡ true) (sym s) h))
  world_certified (None ∷ ms) (suc i) m p c e at h = world_certified ms i m p c e at h
  world_certified (Some n ∷ ms) (suc i) m p c e at h =
      or_right (list_any (certifies c) (member_notes n)) _ (world_certified ms i m p c e at h)

  -- the finalizations that an honest member notes stand
  finals : (notes : List Note) → ((v : Vote) → has_cert notes v ≡ true → Stands x M v)
      → AllByRecursion (λ p. Stands x M (Finalize p)) (filter_map finalization_of notes)
  finals [] f = tt
  finals (Note.Cert s ∷ notes) f =
      by_vote s.vote (same_vote_self s.vote)
      (finals notes (λ v h. f v (or_right (same_vote v s.vote) (has_cert notes v) h)))
    where
      by_vote : (v : Vote) → same_vote v s.vote ≡ true
          → AllByRecursion (λ p. Stands x M (Finalize p)) (filter_map finalization_of notes)
          → AllByRecursion (λ p. Stands x M (Finalize p))
          (cons_option (finalized v) (filter_map finalization_of notes))
      by_vote (Finalize p) e later = (
        f (Finalize p) (or_left (same_vote (Finalize p) s.vote) (has_cert notes (Finalize p)) e),
        later,
      )
      by_vote (Notarize p) e later = later
      by_vote (Nullify d v) e later = later
  finals (Note.Block c b ∷ notes) f = finals notes f
  finals (Note.Verified e v c ∷ notes) f = finals notes f
  finals (Note.Epoch e c ∷ notes) f = finals notes f
  finals (Note.Certified p ∷ notes) f = finals notes f
  finals (Note.Vote v ∷ notes) f = finals notes f
  finals (Note.Ack h ∷ notes) f = finals notes f
  finals (Note.Floor h ∷ notes) f = finals notes f
  finals (Note.Prune h ∷ notes) f = finals notes f

  -- what a member reaches by parents lies down from there
  pub record Reached (b : Block) (c : Commitment) (h : ℕ) : Type 0 where
    pub steps : ℕ
    pub block : Block
    pub down : DownTo r w steps b block
    pub under : block_under r w c ≡ Some block
    pub height : block.height ≡ h

  -- what is reached at a height, with what is finalized above it
  pub record Reaching (c : Commitment) (h : ℕ) : Type 0 where
    pub proposal : Proposal
    pub stands : Stands x M (Finalize proposal)
    pub top : Block
    pub top_under : block_under r w proposal.payload ≡ Some top
    pub steps : ℕ
    pub block : Block
    pub down : DownTo r w steps top block
    pub under : block_under r w c ≡ Some block
    pub height : block.height ≡ h

  module _ (i : ℕ) (notes before rest : List Note) (at : slice_get M i ≡ Some (Some notes))
      (joined : notes ≡ before ++ rest) where
    parent_some : (b x : Block) → parent_of r before b ≡ Some x
        → (block_under r w b.context.parent ≡ Some x) × (b.height ≡ x.height + 1)
    parent_some b x h =
        by_held
        (and_then_some (λ a. cond (a.height + 1 == b.height) (Some a) None)
        (held r before b.context.parent) x h)
      where
        by_height : (a : Block) → held r before b.context.parent ≡ Some a
            → ((a.height + 1 == b.height) ≡ true) ⊎ ((a.height + 1 == b.height) ≡ false)
            → cond (a.height + 1 == b.height) (Some a) None ≡ Some x
            → (block_under r w b.context.parent ≡ Some x) × (b.height ≡ x.height + 1)
        by_height a e (inl t) f =
            let s : a ≡ x = cc (cond-true (a.height + 1 == b.height) (Some a) None t) in (
              held_under i notes before rest at joined b.context.parent x (e ∙ ap Some s),
              sym (eqb-true (a.height + 1) b.height t) ∙ ap (λ (y : Block). y.height + 1) s,
            )
        by_height a e (inr n) f = cc (cond-false (a.height + 1 == b.height) (Some a) None n)

        by_held : ((a : Block) × (held r before b.context.parent ≡ Some a)
            × (cond (a.height + 1 == b.height) (Some a) None ≡ Some x))
            → (block_under r w b.context.parent ≡ Some x) × (b.height ≡ x.height + 1)
        by_held (a, e, f) = by_height a e (cases_Bool (a.height + 1 == b.height)) f

    here : (h : ℕ) (c d : Commitment) (b : Block) → block_under r w c ≡ Some b
        → (b.height == h) ≡ true → Some c ≡ Some d → Reached b d h
    here h c d b u t e =
        let s : c ≡ d = cc in
        record {
          steps = 0;
          block = b;
          down = refl;
          under = subst (λ x. block_under r w x ≡ Some b) s u;
          height = eqb-true b.height h t;
        }

    reached_down : (steps h : ℕ) (c d : Commitment) (b : Block) → block_under r w c ≡ Some b
        → reached r before steps h c b ≡ Some d → Reached b d h
    reached_down zero h c d b u e = go (cases_Bool (b.height == h))
      where
        go : ((b.height == h) ≡ true) ⊎ ((b.height == h) ≡ false) → Reached b d h
        go (inl t) = here h c d b u t (sym (cond-true (b.height == h) (Some c) None t) ∙ e)
        go (inr f) = cc (cond-false (b.height == h) (Some c) None f)
    reached_down (suc steps) h c d b u e =
        go (cases_Bool (b.height == h)) (λ x. reached_down steps h b.context.parent d x)
      where
        more : Option Commitment
        more = option_and_then (reached r before steps h b.context.parent) (parent_of r before b)

        go : ((b.height == h) ≡ true) ⊎ ((b.height == h) ≡ false)
            → ((x : Block) → block_under r w b.context.parent ≡ Some x
            → reached r before steps h b.context.parent x ≡ Some d → Reached x d h)
            → Reached b d h
        go (inl t) later = here h c d b u t (sym (cond-true (b.height == h) (Some c) more t) ∙ e)
        go (inr f) later =
            let (x, p, g) =
            and_then_some (reached r before steps h b.context.parent) (parent_of r before b) d
            (sym (cond-false (b.height == h) (Some c) more f) ∙ e) in
            let (v, up) = parent_some b x p in
            let s = later x v g in
            record {
              steps = suc s.steps;
              block = s.block;
              down = (x, v, up, s.down);
              under = s.under;
              height = s.height;
            }

    -- what is reached at a height above genesis lies down from the block of what is finalized
    pub reaching : (h : ℕ) (c : Commitment) → 0 < h → at_height r before h ≡ Some c → Reaching c h
    reaching h c pos high =
        first_some_at search (λ p. Stands x M (Finalize p)) (λ d. d ≡ c → Reaching c h)
        (filter_map finalization_of before)
        (finals before
        (λ v g. (l.honest i notes at).certs_stand v
        (subst (λ ns. has_cert ns v ≡ true) (sym joined)
        (any_front (is_cert v) before rest g))))
        (λ p d st g s. by_final p d st g s) c
        (sym
        (cond-false (h == 0) (Some (genesis_commitment r))
        (first_some search (filter_map finalization_of before))
        (ne_eqb h 0 (λ z. omega arith)))
        ∙ high)
        refl
      where
        search : Proposal → Option Commitment
        search p =
            option_and_then (λ b. reached r before b.height h p.payload b) (held r before p.payload)

        by_final : (p : Proposal) (d : Commitment) → Stands x M (Finalize p) → search p ≡ Some d
            → d ≡ c → Reaching c h
        by_final p d st e s =
            let (b, hb, g) =
            and_then_some (λ (b : Block). reached r before b.height h p.payload b)
            (held r before p.payload) d e in
            let ub = held_under i notes before rest at joined p.payload b hb in
            let t = reached_down b.height h p.payload d b ub g in
            record {
              proposal = p;
              stands = st;
              top = b;
              top_under = ub;
              steps = t.steps;
              block = t.block;
              down = t.down;
              under = subst (λ c. block_under r w c ≡ Some t.block) s t.under;
              height = t.height;
            }

  -- the block by which an epoch is entered
  pub record Entering (epoch : ℕ) (c : Commitment) : Type 0 where
    pub span : ℕ
    pub is_span : x.span ≡ Some span
    pub positive : 0 < epoch * span
    pub reach : Reaching c (epoch * span)

  span_above : (epoch span : ℕ) → 0 < epoch → 0 < span → 0 < epoch * span
  span_above epoch span pos more =
      let e : 1 + (epoch - 1) ≡ epoch = omega arith in
      let f : 1 * span ≡ span = plus_mul 0 span ∙ omega arith in
      omega (arith, subst (λ n. 1 * span ≤ n * span) e (mul_more (epoch - 1) 1 span), f)

  pub entering : (i : ℕ) (notes before rest : List Note) → slice_get M i ≡ Some (Some notes)
      → notes ≡ before ++ rest → (epoch : ℕ) (c : Commitment) → IsEntered r before epoch c
      → Entering epoch c
  entering i notes before rest at joined epoch c e =
      let pos = span_above epoch e.span (omega (arith, e.above)) (spans e.span e.is_span) in
      record {
        span = e.span;
        is_span = e.is_span;
        positive = pos;
        reach = reaching i notes before rest at joined (epoch * e.span) c pos e.reaches;
      }

  -- that of a note of a member
  pub entered_at : (i : ℕ) (notes : List Note) → slice_get M i ≡ Some (Some notes)
      → (epoch : ℕ) (c : Commitment) → In (Note.Epoch epoch c) notes → Entering epoch c
  entered_at i notes at epoch c h =
      let (front, rest, joined, e) =
      each_split (Keeps r (meaning x M)) [] notes (Note.Epoch epoch c) (keep i notes at) h in
      entering i notes front rest at joined epoch c e

  module _ (anchors : AllAnchored x M) where
    -- what settles a certified proposal's parent view: genesis, what its epoch is entered by, or a
    -- certified proposal that stands notarized there
    pub data Parent (p : Proposal) (over : Commitment) : Type 0 where
      At_genesis : p.parent ≡ 0 → p.epoch ≡ 0 → over ≡ genesis_commitment r → Parent p over
      At_entry : p.parent ≡ 0 → IsAnchored x M p.epoch over → Entering p.epoch over → Parent p over
      At_proposal : (s : Proposal) → IsCertifiedIn M s → Stands x M (Notarize s) → s.epoch ≡ p.epoch
          → s.view ≡ p.parent → over ≡ s.payload → Parent p over

    parent_by : (p : Proposal) (over : Commitment) (i : ℕ) (notes before rest : List Note)
        → slice_get M i ≡ Some (Some notes) → notes ≡ before ++ rest
        → settled (genesis_commitment r) before p.epoch p.parent ≡ Some over → Parent p over
    parent_by p over i notes before rest at joined h = go (cases_Bool (p.parent == 0))
      where
        by_settler : (s : Proposal) → s.payload ≡ over → Settles before p.epoch p.parent s
            → Parent p over
        by_settler s e (d, v, inl y) =
            let z : has_certified notes s ≡ true =
            subst (λ ns. has_certified ns s ≡ true) (sym joined)
            (any_front (is_certified s) before rest y) in
            At_proposal s (certified_in r spans M l keep i notes at s z)
            (certified_rests x (block_fits r) M notes (l.honest i notes at) s z) d v (sym e)
        by_settler s e (d, v, inr y) =
            let z : has_cert notes (Finalize s) ≡ true =
            subst (λ ns. has_cert ns (Finalize s) ≡ true) (sym joined)
            (any_front (is_cert (Finalize s)) before rest y) in
            let u = (l.honest i notes at).certs_stand (Finalize s) z in
            At_proposal s (finalized_in r spans M l keep s u)
            (finalized_notarized x (block_fits r) M l s u) d v (sym e)

        pick : Option Commitment
        pick = option_map (λ (s : Proposal). s.payload) (settler before p.epoch p.parent)

        enter : Option Commitment
        enter =
            option_map (λ (e : ℕ × Commitment). e.1)
            (find (λ e. e.0 == p.epoch) (filter_map epoch_entered before))

        by_epoch : p.parent ≡ 0 → epoch_parent (genesis_commitment r) before p.epoch ≡ Some over
            → ((p.epoch == 0) ≡ true) ⊎ ((p.epoch == 0) ≡ false) → Parent p over
        by_epoch z f (inl t) =
            At_genesis z (eqb-true p.epoch 0 t)
            (sym
            (same_Some (genesis_commitment r) over
            (sym (cond-true (p.epoch == 0) (Some (genesis_commitment r)) enter t) ∙ f)))
        by_epoch z f (inr n) =
            let (e, at_e, g) =
            map_some (λ (e : ℕ × Commitment). e.1)
            (find (λ e. e.0 == p.epoch) (filter_map epoch_entered before)) over
            (sym (cond-false (p.epoch == 0) (Some (genesis_commitment r)) enter n) ∙ f) in
            let there : In (Note.Epoch p.epoch over) notes =
            subst (In (Note.Epoch p.epoch over)) (sym joined)
            (in_left (Note.Epoch p.epoch over) before rest
            (subst (λ c. In (Note.Epoch p.epoch c) before) g
            (found_entry before p.epoch e at_e))) in
            At_entry z (anchors i notes at p.epoch over there)
            (entered_at i notes at p.epoch over there)

        go : ((p.parent == 0) ≡ true) ⊎ ((p.parent == 0) ≡ false) → Parent p over
        go (inl t) =
            by_epoch (eqb-true p.parent 0 t)
            (sym
            (cond-true (p.parent == 0) (epoch_parent (genesis_commitment r) before p.epoch) pick
            t)
            ∙ h)
            (cases_Bool (p.epoch == 0))
        go (inr f) =
            let (s, e, g) =
            map_some (λ (s : Proposal). s.payload) (settler before p.epoch p.parent) over
            (sym
            (cond-false (p.parent == 0) (epoch_parent (genesis_commitment r) before p.epoch)
            pick f)
            ∙ h) in
            by_settler s g (settler_tells before p.epoch p.parent s e)

    -- a certified proposal's block, with that of its parent
    pub record Linked (p : Proposal) : Type 0 where
      pub block : Block
      pub under : block_under r w p.payload ≡ Some block
      pub parent : Block
      pub over : Commitment
      pub over_under : block_under r w over ≡ Some parent
      pub fit : Fit r p block over parent
      pub positive : 0 < block.height
      pub certified : is_certified_in w (commit r block) ≡ true
      pub from : Parent p over

    pub linked : (p : Proposal) → IsCertifiedIn M p → Linked p
    linked p c =
        let (before, rest, joined, f) =
        certified_at r spans M l keep c.place c.notes c.at p c.certified in
        let u = held_under c.place c.notes before rest c.at joined p.payload f.block f.holds in
        let pos = fit_positive r spans p f.block f.over f.parent f.fit in
        let g = fronts c.place c.notes c.at in
        record {
          block = f.block;
          under = u;
          parent = f.parent;
          over = f.over;
          over_under =
              held_under c.place c.notes before rest c.at joined f.over f.parent f.holds_parent;
          fit = fit_cases r p f.block f.over f.parent f.fit;
          positive = pos;
          certified =
              world_certified w.members c.place g.member p (commit r f.block)
              (sym (under_commit r w keepw clear p.payload f.block u pos)) g.at
              (subst (λ ns. has_certified ns p ≡ true) (sym g.joined)
              (any_front (is_certified p) c.notes g.rest c.certified));
          from = parent_by p f.over c.place c.notes before rest c.at joined f.settles;
        }

    -- ---- the base of an epoch

    -- what a block of the epoch leads down to: genesis, or the block of what was finalized last
    -- before
    pub data Base (p : Proposal) (root : Block) : Type 0 where
      From_genesis : p.epoch ≡ 0 → root ≡ genesis r → Base p root
      From_entry : (q : Proposal) → Stands x M (Finalize q) → q.epoch + 1 ≡ p.epoch
          → block_under r w q.payload ≡ Some root → (span : ℕ) → x.span ≡ Some span
          → root.height ≡ p.epoch * span → Base p root

    pub record Based (p : Proposal) : Type 0 where
      pub block : Block
      pub under : block_under r w p.payload ≡ Some block
      pub positive : 0 < block.height
      pub within : is_within x p.epoch block.height ≡ true
      pub steps : ℕ
      pub root : Block
      pub down : DownTo r w steps block root
      pub base : Base p root

    last_within : (epoch h : ℕ) → is_last x epoch h ≡ true → is_within x epoch h ≡ true
    last_within epoch h t =
        let (span, e, f) = last_is x epoch h t in
        ap
        (λ o. option_map_or (λ last. nat_le h last) (option_map (λ span. (epoch + 1) * span) o)
        true)
        e
        ∙ le-leb h ((epoch + 1) * span) (omega (arith, f))

    base_over : (p s : Proposal) (root : Block) → s.epoch ≡ p.epoch → Base s root → Base p root
    base_over p s root e (From_genesis z g) = From_genesis (sym e ∙ z) g
    base_over p s root e (From_entry q st before u span is_span h) =
        From_entry q st (before ∙ e) u span is_span (h ∙ ap (λ n. n * span) e)

    pub based : (bound : ℕ) (p : Proposal) → IsCertifiedIn M p → Stands x M (Notarize p)
        → p.view < bound → Based p
    based zero p c a lt = absurd (omega arith)
    based (suc bound) p c a lt =
        go (linked p c) (linked p c).fit (linked p c).from (λ s. based bound s)
      where
        one_down : (k : Linked p) → k.block.height ≡ k.parent.height + 1
            → k.block.context.parent ≡ k.over → DownTo r w 1 k.block k.parent
        one_down k up named = (
          k.parent,
          subst (λ c. block_under r w c ≡ Some k.parent) (sym named) k.over_under,
          up,
          refl,
        )

        go : (k : Linked p) → Fit r p k.block k.over k.parent → Parent p k.over
            → ((s : Proposal) → IsCertifiedIn M s → Stands x M (Notarize s) → s.view < bound
            → Based s)
            → Based p
        go k (New up within named digests) (At_genesis z e g) later =
            let root : k.parent ≡ genesis r =
            same_Some k.parent (genesis r)
            (sym (subst (λ c. block_under r w c ≡ Some k.parent) g k.over_under)
            ∙ genesis_under) in
            record {
              block = k.block;
              under = k.under;
              positive = k.positive;
              within = within;
              steps = 1;
              root = k.parent;
              down = one_down k up named;
              base = From_genesis e root;
            }
        go k (New up within named digests) (At_entry z q n) later =
            let same = same_Some k.parent n.reach.block (sym k.over_under ∙ n.reach.under) in
            record {
              block = k.block;
              under = k.under;
              positive = k.positive;
              within = within;
              steps = 1;
              root = k.parent;
              down = one_down k up named;
              base =
                  From_entry q.proposal q.stands q.before
                  (subst (λ c. block_under r w c ≡ Some k.parent) (sym q.payload) k.over_under)
                  n.span n.is_span (ap (λ (y : Block). y.height) same ∙ n.reach.height);
            }
        go k (New up within named digests) (At_proposal s cs st e v g) later =
            let t = later s cs st (omega (arith, notarized_below x (block_fits r) M l p a)) in
            let same =
            same_Some t.block k.parent
            (sym t.under ∙ subst (λ c. block_under r w c ≡ Some k.parent) g k.over_under) in
            record {
              block = k.block;
              under = k.under;
              positive = k.positive;
              within = within;
              steps = suc t.steps;
              root = t.root;
              down = (
                k.parent,
                subst (λ c. block_under r w c ≡ Some k.parent) (sym named) k.over_under,
                up,
                subst (λ y. DownTo r w t.steps y t.root) same t.down,
              );
              base = base_over p s t.root e t.base;
            }
        go k (Again same block pos last) (At_genesis z e g) later = absurd (omega arith)
        go k (Again same block pos last) (At_entry z q n) later = absurd (omega arith)
        go k (Again same block pos last) (At_proposal s cs st e v g) later =
            let t = later s cs st (omega (arith, notarized_below x (block_fits r) M l p a)) in
            let same_block =
            same_Some t.block k.parent
            (sym t.under ∙ subst (λ c. block_under r w c ≡ Some k.parent) g k.over_under)
            ∙ sym block in
            record {
              block = k.block;
              under = k.under;
              positive = k.positive;
              within = last_within p.epoch k.block.height last;
              steps = t.steps;
              root = t.root;
              down = subst (λ y. DownTo r w t.steps y t.root) same_block t.down;
              base = base_over p s t.root e t.base;
            }

    -- of what is finalized
    pub finalized_based : (p : Proposal) → Stands x M (Finalize p) → Based p
    finalized_based p st =
        based (suc p.view) p (finalized_in r spans M l keep p st)
        (finalized_notarized x (block_fits r) M l p st) (omega arith)

    -- ---- what is entered is finalized in the epoch before

    pub anchor : (bound : ℕ) (p : Proposal) → Stands x M (Finalize p) → p.epoch < bound
        → (b : Block) → block_under r w p.payload ≡ Some b → (k : ℕ) (y : Block) → DownTo r w k b y
        → (epoch span : ℕ) → 0 < epoch → x.span ≡ Some span → (c : Commitment)
        → block_under r w c ≡ Some y → 0 < y.height → y.height ≡ epoch * span
        → IsAnchored x M epoch c
    anchor zero p st lt b u k y d epoch span pos is_span c v high h = absurd (omega arith)
    anchor (suc bound) p st lt b u k y d epoch span pos is_span c v high h =
        go (finalized_based p st) (cases_order epoch (p.epoch + 1)) (λ q. anchor bound q)
      where
        low : (t : Based p) → b.height ≤ (p.epoch + 1) * span
        low t =
            within_is x p.epoch b.height span is_span
            (subst (λ (z : Block). is_within x p.epoch z.height ≡ true)
            (same_Some t.block b (sym t.under ∙ u)) t.within)

        by_base : (t : Based p) → Base p t.root → epoch < p.epoch + 1
            → ((q : Proposal) → Stands x M (Finalize q) → q.epoch < bound → (b : Block)
            → block_under r w q.payload ≡ Some b → (k : ℕ) (y : Block) → DownTo r w k b y
            → (epoch span : ℕ) → 0 < epoch → x.span ≡ Some span → (c : Commitment)
            → block_under r w c ≡ Some y → 0 < y.height → y.height ≡ epoch * span
            → IsAnchored x M epoch c)
            → IsAnchored x M epoch c
        by_base t (From_genesis z g) less later = absurd (omega arith)
        by_base t (From_entry q sq before uq span' is_span' hr) less later =
            let down : DownTo r w t.steps b t.root =
            subst (λ z. DownTo r w t.steps z t.root) (same_Some t.block b (sym t.under ∙ u))
            t.down in
            let same : span' ≡ span = same_Some span' span (sym is_span' ∙ is_span) in
            let hr' : t.root.height ≡ p.epoch * span = hr ∙ ap (λ n. p.epoch * n) same in
            let more : epoch * span ≤ p.epoch * span =
            subst (λ n. epoch * span ≤ n * span) (gap epoch p.epoch (omega arith))
            (mul_more (p.epoch - epoch) epoch span) in
            let h1 = down_height r w t.steps b t.root down in
            let h2 = down_height r w k b y d in
            let e : k ≡ t.steps + (k - t.steps) = omega arith in
            let (m, f, g) =
            down_split r w t.steps (k - t.steps) b y (subst (λ n. DownTo r w n b y) e d) in
            let s : m ≡ t.root = down_same r w t.steps b m t.root f down in
            later q sq (omega arith) t.root uq (k - t.steps) y
            (subst (λ z. DownTo r w (k - t.steps) z y) s g) epoch span pos is_span c v high h
          where
            gap : (a b : ℕ) → a ≤ b → a + (b - a) ≡ b
            gap a b le = omega arith

        go : Based p → (epoch ≡ p.epoch + 1) ⊎ ((epoch < p.epoch + 1) ⊎ (p.epoch + 1 < epoch))
            → ((q : Proposal) → Stands x M (Finalize q) → q.epoch < bound → (b : Block)
            → block_under r w q.payload ≡ Some b → (k : ℕ) (y : Block) → DownTo r w k b y
            → (epoch span : ℕ) → 0 < epoch → x.span ≡ Some span → (c : Commitment)
            → block_under r w c ≡ Some y → 0 < y.height → y.height ≡ epoch * span
            → IsAnchored x M epoch c)
            → IsAnchored x M epoch c
        go t (inl e) later =
            let h' : y.height ≡ (p.epoch + 1) * span = h ∙ ap (λ n. n * span) e in
            let z : k ≡ 0 = omega (arith, low t, down_height r w k b y d) in
            let same : b ≡ y = subst (λ n. DownTo r w n b y) z d in
            let cy : commit r y ≡ c = under_commit r w keepw clear c y v high in
            let cb : commit r b ≡ p.payload =
            under_commit r w keepw clear p.payload b u
            (subst (λ (z : Block). 0 < z.height) (sym same) high) in
            record {
              proposal = p;
              stands = st;
              before = sym e;
              payload = sym cb ∙ (ap (commit r) same ∙ cy);
            }
        go t (inr (inl less)) later = by_base t t.base less later
        go t (inr (inr more)) later =
            let e : (p.epoch + 1) + (epoch - (p.epoch + 1) - 1) + 1 ≡ epoch = omega arith in
            let f = plus_mul ((p.epoch + 1) + (epoch - (p.epoch + 1) - 1)) span in
            let g = mul_more (epoch - (p.epoch + 1) - 1) (p.epoch + 1) span in
            let i : epoch * span ≡ ((p.epoch + 1) + (epoch - (p.epoch + 1) - 1)) * span + span =
            ap (λ n. n * span) (sym e) ∙ f in
            absurd (omega (arith, g, i, low t, down_height r w k b y d, spans span is_span))

    -- what a member enters by its notes is anchored
    pub anchored_new : (i : ℕ) (notes : List Note) → slice_get M i ≡ Some (Some notes)
        → notes ≡ notes ++ [] → (epoch : ℕ) (c : Commitment) → IsEntered r notes epoch c
        → IsAnchored x M epoch c
    anchored_new i notes at joined epoch c e =
        let n = entering i notes notes [] at joined epoch c e in
        let t = n.reach in
        anchor (suc t.proposal.epoch) t.proposal t.stands (omega arith) t.top t.top_under t.steps
        t.block t.down epoch n.span (omega (arith, e.above)) n.is_span c t.under
        (omega (arith, t.height, n.positive)) t.height
