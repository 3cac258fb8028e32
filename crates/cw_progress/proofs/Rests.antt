-- What holds of each note of a step, by what the note rests on.
use Rattle.std.proofs.Common.{◌≡◌, ℕ, zero, suc, ◌-◌, ◌*◌, ◌^◌, ◌≤◌, Bool, true, false, ◌&&◌, ◌==◌, not, cond, min, nat_lt, nat_le, List, [], ◌∷◌, ◌++◌, Option, Some, None, option_map, refl, sym, ◌∙◌, ap, subst, inl, inr, ◌⊎◌, arith, eqb-true}
use Rattle.std.specs.List.{AllByRecursion, list_any}
use Rattle.std.specs.Option.{option_map_or, option_or}
use Rattle.std.proofs.lemmas.Bool.{and_parts, cases_Bool, cond-true, cond-false, false≢true, leb-false, leb-true}
use Rattle.std.proofs.lemmas.Option.{same_Some}
use Rattle.cw_types.specs.declared.commitment.Commitment.{Commitment}
use Rattle.cw_types.specs.declared.event.Event.{Event}
use Rattle.cw_types.specs.declared.note.Note.{Note}
use Rattle.cw_types.specs.declared.vote.Proposal.{Proposal}
use Rattle.cw_types.specs.declared.vote.Vote.{Vote}
use Rattle.cw_types.specs.declared.vote.Vote.TheVariants.{Finalize, Notarize, Nullify}
use Rattle.cw_types.specs.Block.{Block}
use Rattle.cw_types.specs.Epochs.{is_last, is_member, is_within, leader}
use Rattle.cw_rules.specs.Accepted.{State, first_some}
use Rattle.cw_rules.specs.Direct.{best_parent, direct, least, proposal_notes, propose_new, propose_over, proposed, proposed_block, timed_out}
use Rattle.cw_rules.specs.Held.{at_height, greatest_prune, held, last_ack, pending, shown}
use Rattle.cw_rules.specs.Notes.{epoch_of, has_block, has_cert, view_of}
use Rattle.cw_rules.specs.Owed.{all_nullified, block_owed, can_vote, cert_owed, certified_owed, epoch_owed, finalize_owed, floor_owed, has_closed, has_voted, is_single, named_commitments, named_proposals, named_votes, notarize_owed, owed, reached_epoch, signers_of, top_epoch}
use Rattle.cw_rules.specs.Reached.{In}
use Rattle.cw_rules.specs.Rules.{Rules, commit}
use Rattle.cw_rules.specs.Stands.{EachAfter}
use Rattle.cw_rules.specs.Step.{marks, settle, step_notes, with_notes}
use Rattle.cw_rules.proofs.Lists.{and_then_some, map_or_true, map_some, when_some}
use Rattle.cw_rules.proofs.StepKeeps.{each_append}

-- ---- searches

-- where a search answers
pub first_found : {X Y : Type 0} (f : X → Option Y) (xs : List X) (y : Y)
    → first_some f xs ≡ Some y → (x : X) × In x xs × (f x ≡ Some y)
first_found f [] y h = cc
first_found {X} {Y} f (x ∷ xs) y h = go (f x) refl h (first_found f xs y)
  where
    go : (o : Option Y) → f x ≡ o → option_or o (first_some f xs) ≡ Some y
        → (first_some f xs ≡ Some y → (z : X) × In z xs × (f z ≡ Some y))
        → (z : X) × In z (x ∷ xs) × (f z ≡ Some y)
    go None e h later = let (z, at, g) = later h in (z, inr at, g)
    go (Some u) e h later = (x, inl refl, e ∙ h)

-- where it answers nothing
pub first_none : {X Y : Type 0} (f : X → Option Y) (xs : List X) (x : X)
    → first_some f xs ≡ None → In x xs → f x ≡ None
first_none f [] x h at = absurd at
first_none {X} {Y} f (y ∷ ys) x h at = go (f y) refl h at (first_none f ys x)
  where
    go : (o : Option Y) → f y ≡ o → option_or o (first_some f ys) ≡ None → In x (y ∷ ys)
        → (first_some f ys ≡ None → In x ys → f x ≡ None) → f x ≡ None
    go None e h (inl s) later = ap f s ∙ e
    go None e h (inr at) later = later h at
    go (Some u) e h at later = cc

-- the first of two answers, or the second where there is no first
pub or_split : {Y : Type 0} (a b : Option Y) (y : Y) → option_or a b ≡ Some y
    → (a ≡ Some y) ⊎ ((a ≡ None) × (b ≡ Some y))
or_split None b y h = inr (refl, h)
or_split (Some x) b y h = inl h

pub or_none : {Y : Type 0} (a b : Option Y) → option_or a b ≡ None → (a ≡ None) × (b ≡ None)
or_none None b h = (refl, h)
or_none (Some x) b h = cc

-- the least of some numbers is one of them
pub least_in : (xs : List ℕ) (h : ℕ) → least xs ≡ Some h → In h xs
least_in [] h e = cc
least_in (x ∷ xs) h e =
    go (least xs) refl (same_Some (option_map_or (min x) (least xs) x) h e) (least_in xs)
  where
    go : (o : Option ℕ) → least xs ≡ o → option_map_or (min x) o x ≡ h
        → ((y : ℕ) → least xs ≡ Some y → In y xs) → In h (x ∷ xs)
    go None is e later = inl (sym e)
    go (Some y) is e later = by_order (cases_Bool (nat_le x y))
      where
        by_order : (nat_le x y ≡ true) ⊎ (nat_le x y ≡ false) → In h (x ∷ xs)
        by_order (inl t) = inl (omega (arith, e, leb-true x y t))
        by_order (inr f) =
            let same : y ≡ h = omega (arith, e, leb-false x y f) in
            inr (subst (λ z. In z xs) same (later y is))

-- ---- the notes of a step

-- the state with these notes
abbrev pub noted_as : State → List Note → State
noted_as s notes = record { notes = notes; came = s.came; given = s.given }

-- the event asks for a proposal
abbrev pub IsProposing : Event → Type 0
IsProposing (Event.Propose payload) = Unit {0}
IsProposing _ = ⊥

-- R holds of each note that the state leads to by the event, after the notes before it
pub record Rests (R : List Note → Note → Type 0) (r : Rules) (id : ℕ) (s : State)
    (e : Event) : Type 0 where
  pub of_block : (ns : List Note) (c : Commitment) (b : Block) → R ns (Note.Block c b)
  pub of_verified : (ns : List Note) (epoch view : ℕ) (c : Commitment)
      → R ns (Note.Verified epoch view c)
  pub of_notarize : (ns : List Note) (p : Proposal)
      → IsProposing e
      ⊎ (list_any (is_single (leader r.epochs p.epoch p.view) (Notarize p)) s.came.ballots ≡ true)
      → R ns (Note.Vote (Notarize p))
  pub of_finalize : (ns : List Note) (p : Proposal) → R ns (Note.Vote (Finalize p))
  pub of_certified : (ns : List Note) (p : Proposal) → R ns (Note.Certified p)
  pub of_epoch : (ns : List Note) (epoch : ℕ) (c : Commitment) → R ns (Note.Epoch epoch c)
  pub of_nullify : (view : ℕ) → e ≡ Event.Timeout view → view ≡ view_of s.notes (epoch_of s.notes)
      → R s.notes (Note.Vote (Nullify (epoch_of s.notes) view))
  pub of_ack : (h : ℕ) → In h (pending s) → R s.notes (Note.Ack h)
  pub of_prune : (h a : ℕ) → e ≡ Event.Prune h → last_ack s.notes ≡ Some a → h ≤ a
      → R s.notes (Note.Prune h)
  pub of_cert : (ns : List Note) (v : Vote) (signers : List ℕ)
      → signers_of r id (noted_as s ns) v ≡ Some signers
      → R ns (Note.Cert (record { vote = v; signers = signers }))
  pub of_floor : (ns : List Note) (c : Commitment) (b : Block) → In c s.came.wishes
      → first_some (block_owed r (noted_as s ns)) (named_commitments r (noted_as s ns)) ≡ None
      → first_some (cert_owed r id (noted_as s ns)) (named_votes (noted_as s ns)) ≡ None
      → held r ns c ≡ Some b → R ns (Note.Floor b.height)

-- a block, where it was verified, or a vote to notarize
abbrev is_plain : Note → Bool
is_plain (Note.Block c b) = true
is_plain (Note.Verified epoch view c) = true
is_plain (Note.Vote (Notarize p)) = true
is_plain _ = false

abbrev ArePlain : List Note → Type 0
ArePlain notes = AllByRecursion (λ n. is_plain n ≡ true) notes

proposal_plain : (r : Rules) (notes : List Note) (epoch view parent : ℕ) (b : Block)
    → ArePlain (proposal_notes r notes epoch view parent b)
proposal_plain r notes epoch view parent b = go (has_block notes (commit r b))
  where
    go : (noted : Bool)
        → ArePlain
        (cond noted [] (Note.Block (commit r b) b ∷ [])
        ++ Note.Verified epoch view (commit r b)
        ∷ Note.Vote (Notarize (record {
          epoch = epoch;
          view = view;
          parent = parent;
          payload = commit r b;
        }))
        ∷ [])
    go true = (refl, (refl, tt))
    go false = (refl, (refl, (refl, tt)))

plain_if : (b : Bool) (notes : List Note) → ArePlain notes → ArePlain (cond b notes [])
plain_if true notes a = a
plain_if false notes a = tt

new_plain : (r : Rules) (notes : List Note) (epoch view : ℕ) (payload : List ℕ)
    (best : ℕ × Commitment × Block)
    → ArePlain (propose_new r notes epoch view payload best)
new_plain r notes epoch view payload best =
    let b =
    proposed_block r (record { epoch = epoch; view = view; parent = best.0; payload = best.1 })
    best.1 best.2 payload in
    plain_if
    (nat_lt b.height (2 ^ 64 - 1) && is_within r.epochs epoch b.height && r.accepts b best.2)
    (proposal_notes r notes epoch view best.0 b) (proposal_plain r notes epoch view best.0 b)

over_plain : (r : Rules) (notes : List Note) (epoch view : ℕ) (payload : List ℕ)
    (best : ℕ × Commitment × Block)
    → ArePlain (propose_over r notes epoch view payload best)
over_plain r notes epoch view payload best =
    go (nat_lt 0 best.0 && is_last r.epochs epoch best.2.height)
  where
    go : (again : Bool)
        → ArePlain
        (cond again
        (Note.Vote (Notarize (record {
          epoch = epoch;
          view = view;
          parent = best.0;
          payload = best.1;
        })) ∷ [])
        (propose_new r notes epoch view payload best))
    go true = (refl, tt)
    go false = new_plain r notes epoch view payload best

proposed_plain : (r : Rules) (id : ℕ) (notes : List Note) (payload : List ℕ)
    → ArePlain (proposed r id notes payload)
proposed_plain r id notes payload =
    let epoch = epoch_of notes in
    let view = view_of notes epoch in
    plain_if
    ((leader r.epochs epoch view == id) && nat_lt view (2 ^ 64 - 1)
    && not (has_voted notes epoch view))
    (option_map_or (propose_over r notes epoch view payload) (best_parent r notes epoch view)
    [])
    (go epoch view (best_parent r notes epoch view))
  where
    go : (epoch view : ℕ) (o : Option (ℕ × Commitment × Block))
        → ArePlain (option_map_or (propose_over r notes epoch view payload) o [])
    go epoch view None = tt
    go epoch view (Some best) = over_plain r notes epoch view payload best

-- an epoch that is owed is a note of one
pub epoch_is : (r : Rules) (notes : List Note) (span epoch : ℕ) (note : Note)
    → reached_epoch r notes span epoch ≡ Some note
    → (x : ℕ) × (c : Commitment) × (note ≡ Note.Epoch x c)
epoch_is r notes span zero note h = cc
epoch_is r notes span (suc epoch) note h =
    go (nat_le (suc epoch) (epoch_of notes)) h (epoch_is r notes span epoch note)
  where
    here : Option Note
    here = option_map (Note.Epoch (suc epoch)) (at_height r notes (suc epoch * span))

    by_here : (here ≡ Some note) ⊎ ((here ≡ None) × (reached_epoch r notes span epoch ≡ Some note))
        → (reached_epoch r notes span epoch ≡ Some note
        → (x : ℕ) × (c : Commitment) × (note ≡ Note.Epoch x c))
        → (x : ℕ) × (c : Commitment) × (note ≡ Note.Epoch x c)
    by_here (inl e) later =
        let (c, f, g) =
        map_some (Note.Epoch (suc epoch)) (at_height r notes (suc epoch * span)) note e in
        (suc epoch, c, sym g)
    by_here (inr e) later = later e.1

    go : (b : Bool) → cond b None (option_or here (reached_epoch r notes span epoch)) ≡ Some note
        → (reached_epoch r notes span epoch ≡ Some note
        → (x : ℕ) × (c : Commitment) × (note ≡ Note.Epoch x c))
        → (x : ℕ) × (c : Commitment) × (note ≡ Note.Epoch x c)
    go true h later = cc
    go false h later = by_here (or_split here (reached_epoch r notes span epoch) note h) later

module _ (R : List Note → Note → Type 0) (r : Rules) (id : ℕ) (s : State) (e : Event)
    (k : Rests R r id s e) where
  plain_each : IsProposing e → (before notes : List Note) → ArePlain notes
      → EachAfter R before notes
  plain_each o before [] a = tt
  plain_each o before (Note.Block c b ∷ ns) a =
      (k.of_block before c b, plain_each o (before ++ Note.Block c b ∷ []) ns a.1)
  plain_each o before (Note.Verified epoch view c ∷ ns) a = (
    k.of_verified before epoch view c,
    plain_each o (before ++ Note.Verified epoch view c ∷ []) ns a.1,
  )
  plain_each o before (Note.Vote (Notarize p) ∷ ns) a = (
    k.of_notarize before p (inl o),
    plain_each o (before ++ Note.Vote (Notarize p) ∷ []) ns a.1,
  )
  plain_each o before (_ ∷ ns) a = absurd (false≢true a.0)

  timeout_each : (view : ℕ) → e ≡ Event.Timeout view
      → EachAfter R s.notes (timed_out r id s.notes view)
  timeout_each view is = go (cases_Bool test)
    where
      epoch : ℕ
      epoch = epoch_of s.notes

      test : Bool
      test =
          (view == view_of s.notes epoch) && nat_lt view (2 ^ 64 - 1)
          && is_member r.epochs epoch id && not (has_closed s.notes epoch view)

      note : List Note
      note = Note.Vote (Nullify epoch view) ∷ []

      go : (test ≡ true) ⊎ (test ≡ false) → EachAfter R s.notes (cond test note [])
      go (inl t) =
          let a =
          and_parts
          ((view == view_of s.notes epoch) && nat_lt view (2 ^ 64 - 1)
          && is_member r.epochs epoch id)
          (not (has_closed s.notes epoch view)) t in
          let b =
          and_parts ((view == view_of s.notes epoch) && nat_lt view (2 ^ 64 - 1))
          (is_member r.epochs epoch id) a.0 in
          let c = and_parts (view == view_of s.notes epoch) (nat_lt view (2 ^ 64 - 1)) b.0 in
          subst (EachAfter R s.notes) (sym (cond-true test note [] t))
          (k.of_nullify view is (eqb-true view (view_of s.notes epoch) c.0), tt)
      go (inr f) = subst (EachAfter R s.notes) (sym (cond-false test note [] f)) tt

  ack_each : EachAfter R s.notes (option_map_or (λ h. Note.Ack h ∷ []) (least (pending s)) [])
  ack_each = go (least (pending s)) refl
    where
      go : (o : Option ℕ) → least (pending s) ≡ o
          → EachAfter R s.notes (option_map_or (λ h. Note.Ack h ∷ []) o [])
      go None e = tt
      go (Some h) e = (k.of_ack h (least_in (pending s) h e), tt)

  prune_each : (h : ℕ) → e ≡ Event.Prune h
      → EachAfter R s.notes
      (cond
      (option_map_or (λ a. nat_le h a) (last_ack s.notes) false
      && nat_lt (greatest_prune s.notes) h)
      (Note.Prune h ∷ []) [])
  prune_each h is = go (cases_Bool test)
    where
      low : Bool
      low = option_map_or (λ a. nat_le h a) (last_ack s.notes) false

      test : Bool
      test = low && nat_lt (greatest_prune s.notes) h

      go : (test ≡ true) ⊎ (test ≡ false)
          → EachAfter R s.notes (cond test (Note.Prune h ∷ []) [])
      go (inl t) =
          let p = and_parts low (nat_lt (greatest_prune s.notes) h) t in
          let (a, f, g) = map_or_true (λ a. nat_le h a) (last_ack s.notes) p.0 in
          subst (EachAfter R s.notes) (sym (cond-true test (Note.Prune h ∷ []) [] t))
          (k.of_prune h a is f (leb-true h a g), tt)
      go (inr f) = subst (EachAfter R s.notes) (sym (cond-false test (Note.Prune h ∷ []) [] f)) tt

  direct_by : (x : Event) → e ≡ x → EachAfter R s.notes (direct r id s x)
  direct_by (Event.Propose payload) is =
      plain_each (subst IsProposing (sym is) tt) s.notes (proposed r id s.notes payload)
      (proposed_plain r id s.notes payload)
  direct_by (Event.Timeout view) is = timeout_each view is
  direct_by Event.Ack is = ack_each
  direct_by (Event.Prune h) is = prune_each h is
  direct_by _ is = tt

  -- a note that is owed
  owed_rests : (ns : List Note) (note : Note) → owed r id (noted_as s ns) ≡ Some note → R ns note
  owed_rests ns note h = one (or_split a1 r1 note h)
    where
      t : State
      t = noted_as s ns

      a1 : Option Note
      a1 = first_some (block_owed r t) (named_commitments r t)

      a2 : Option Note
      a2 = first_some (cert_owed r id t) (named_votes t)

      a3 : Option Note
      a3 = first_some (certified_owed r t) (named_proposals t)

      a4 : Option Note
      a4 = first_some (floor_owed r t) t.came.wishes

      a5 : Option Note
      a5 = epoch_owed r t

      a6 : Option Note
      a6 = first_some (notarize_owed r id t) (named_proposals t)

      a7 : Option Note
      a7 = first_some (finalize_owed r id t) (named_proposals t)

      r5 : Option Note
      r5 = option_or a6 a7

      r4 : Option Note
      r4 = option_or a5 r5

      r3 : Option Note
      r3 = option_or a4 r4

      r2 : Option Note
      r2 = option_or a3 r3

      r1 : Option Note
      r1 = option_or a2 r2

      six : (a6 ≡ Some note) ⊎ ((a6 ≡ None) × (a7 ≡ Some note)) → R ns note
      six (inl x) =
          let (p, at, f) = first_found (notarize_owed r id t) (named_proposals t) note x in
          let w = when_some _ (Note.Vote (Notarize p)) note f in
          let g = and_parts _ (all_nullified ns p.epoch p.parent p.view) w.0 in
          let u = and_parts _ (can_vote r id t p) g.0 in
          let y = and_parts _ (not (has_voted ns p.epoch p.view)) u.0 in
          let z =
          and_parts _
          (list_any (is_single (leader r.epochs p.epoch p.view) (Notarize p)) s.came.ballots) y.0
          in
          subst (R ns) w.1 (k.of_notarize ns p (inr z.1))
      six (inr x) =
          let (p, at, f) = first_found (finalize_owed r id t) (named_proposals t) note x.1 in
          subst (R ns) (when_some _ (Note.Vote (Finalize p)) note f).1 (k.of_finalize ns p)

      five : (a5 ≡ Some note) ⊎ ((a5 ≡ None) × (r5 ≡ Some note)) → R ns note
      five (inl x) =
          let (span, f, g) =
          and_then_some (λ span. reached_epoch r ns span (top_epoch r ns span)) r.epochs.span note
          x in
          let (y, c, same) = epoch_is r ns span (top_epoch r ns span) note g in
          subst (R ns) (sym same) (k.of_epoch ns y c)
      five (inr x) = six (or_split a6 a7 note x.1)

      four : a1 ≡ None → a2 ≡ None → (a4 ≡ Some note) ⊎ ((a4 ≡ None) × (r4 ≡ Some note)) → R ns note
      four all none (inl x) =
          let (c, at, f) = first_found (floor_owed r t) t.came.wishes note x in
          let (b, g, u) = and_then_some _ (held r ns c) note f in
          subst (R ns) (when_some _ (Note.Floor b.height) note u).1 (k.of_floor ns c b at all none g)
      four all none (inr x) = five (or_split a5 r5 note x.1)

      three : a1 ≡ None → a2 ≡ None → (a3 ≡ Some note) ⊎ ((a3 ≡ None) × (r3 ≡ Some note)) → R ns note
      three all none (inl x) =
          let (p, at, f) = first_found (certified_owed r t) (named_proposals t) note x in
          subst (R ns) (when_some _ (Note.Certified p) note f).1 (k.of_certified ns p)
      three all none (inr x) = four all none (or_split a4 r4 note x.1)

      by_cert : (v : Vote) (b : Bool)
          → cond b None (option_map (λ signers. Note.Cert (record { vote = v; signers = signers }))
          (signers_of r id t v))
          ≡ Some note
          → R ns note
      by_cert v true f = cc
      by_cert v false f =
          let (signers, g, same) =
          map_some (λ (signers : List ℕ). Note.Cert (record { vote = v; signers = signers }))
          (signers_of r id t v) note f in
          subst (R ns) same (k.of_cert ns v signers g)

      two : a1 ≡ None → (a2 ≡ Some note) ⊎ ((a2 ≡ None) × (r2 ≡ Some note)) → R ns note
      two all (inl x) =
          let (v, at, f) = first_found (cert_owed r id t) (named_votes t) note x in
          by_cert v (has_cert ns v) f
      two all (inr x) = three all x.0 (or_split a3 r3 note x.1)

      one : (a1 ≡ Some note) ⊎ ((a1 ≡ None) × (r1 ≡ Some note)) → R ns note
      one (inl x) =
          let (c, at, f) = first_found (block_owed r t) (named_commitments r t) note x in
          let (b, g, u) = and_then_some _ (shown r t.came c) note f in
          subst (R ns) (when_some _ (Note.Block c b) note u).1 (k.of_block ns c b)
      one (inr x) = two x.0 (or_split a2 r2 note x.1)

  pub settle_each : (steps : ℕ) (ns : List Note) → EachAfter R ns (settle r id steps (noted_as s ns))
  settle_each zero ns = tt
  settle_each (suc steps) ns =
      go (owed r id (noted_as s ns)) refl (λ note. settle_each steps (ns ++ note ∷ []))
    where
      go : (o : Option Note) → owed r id (noted_as s ns) ≡ o
          → ((note : Note)
          → EachAfter R (ns ++ note ∷ []) (settle r id steps (noted_as s (ns ++ note ∷ []))))
          → EachAfter R ns
          (option_map_or
          (λ note. note ∷ settle r id steps (noted_as s (ns ++ note ∷ []))) o [])
      go None e later = tt
      go (Some note) e later = (owed_rests ns note e, later note)

  -- R holds of each note of the step
  pub step_each : EachAfter R s.notes (step_notes r id s e)
  step_each =
      let first = direct r id s e in
      let after = with_notes s first in
      each_append R s.notes first (settle r id (marks after) after) (direct_by e refl)
      (settle_each (marks after) (s.notes ++ first))
