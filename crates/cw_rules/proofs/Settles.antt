-- The owed notes of a step come to an end: a step's notes are all that are owed.
use Rattle.std.proofs.Common.{◌≡◌, ℕ, zero, suc, ◌+◌, ◌*◌, ◌/◌, ◌==◌, ◌<◌, ◌≤◌, Bool, true, false, ◌&&◌, nat_le, nat_lt, cond, List, [], ◌∷◌, ◌++◌, Option, Some, None, refl, sym, ◌∙◌, ap, subst, inl, inr, ◌⊎◌, arith, map, filter_map, flat_map, max, append_assoc, append-nil, option_map, option_and_then}
use Rattle.std.specs.List.{AllByRecursion, cons_option}
use Rattle.std.specs.Option.{option_or, option_map_or}
use Rattle.std.proofs.lemmas.Bool.{cases_Bool, cond-true, cond-false, leb-false}
use Rattle.std.proofs.lemmas.List.Elements.{filter_map-append}
use Rattle.cw_types.specs.declared.commitment.Commitment.{Commitment}
use Rattle.cw_types.specs.declared.event.Event.{Event}
use Rattle.cw_types.specs.declared.note.Note.{Note}
use Rattle.cw_types.specs.declared.vote.Proposal.{Proposal}
use Rattle.cw_types.specs.declared.vote.Vote.{Vote}
use Rattle.cw_types.specs.declared.vote.Vote.TheVariants.{Finalize, Notarize, Nullify}
use Rattle.cw_types.specs.Block.{Block}
use Rattle.cw_types.specs.Same.{same_commitment}
use Rattle.cw_types.specs.Votes.{proposal_of}
use Rattle.cw_rules.specs.Accepted.{Ballot, State, first_some}
use Rattle.cw_rules.specs.Direct.{direct}
use Rattle.cw_rules.specs.Held.{at_height, finalization_of, greatest_prune, held, noted_block_of, reached}
use Rattle.cw_rules.specs.Notes.{entered, epoch_of, greatest, has_block}
use Rattle.cw_rules.specs.Owed.{ballot_vote, block_owed, cert_owed, certified_owed, epoch_owed, final_heights, finalize_owed, floor_owed, named_commitments, named_proposals, named_votes, notarize_owed, note_proposal, note_vote, owed, part_commitment, reached_epoch, top_epoch}
use Rattle.cw_rules.specs.Reached.{In}
use Rattle.cw_rules.specs.Rules.{Rules, genesis, genesis_commitment}
use Rattle.cw_rules.specs.Step.{marks, settle, step_notes, with_notes}
use Rattle.std.proofs.lemmas.Option.{same_Some}
use Rattle.cw_rules.proofs.Lists.{or_some, first_some_at, and_then_some, map_some, all_both, in_left, in_right}
use Rattle.cw_rules.proofs.Marks.{Mark, Stays, unset, is_prune, unset_no_more, unset_less, unset_length, five, of_vote, of_wish, of_note, all_marks, prune_same, all_stay, marks_enough, Sub, IsCovered, Sets, block_sets, cert_sets, certified_sets, floor_sets, notarize_sets, finalize_sets}

-- ---- a note that enters an epoch leaves no other to enter

-- what is owed where an epoch is
record Entering (notes : List Note) (note : Note) : Type 0 where
  epoch : ℕ
  by : Commitment
  is : note ≡ Note.Epoch epoch by
  above : epoch_of notes < epoch

entering : (r : Rules) (notes : List Note) (span top : ℕ) (note : Note)
    → reached_epoch r notes span top ≡ Some note → Entering notes note
entering r notes span zero note h = cc
entering r notes span (suc top) note h =
    go (cases_Bool (nat_le (suc top) (epoch_of notes))) (entering r notes span top note)
  where
    here : Option Note
    here = option_map (Note.Epoch (suc top)) (at_height r notes (suc top * span))

    by_case : epoch_of notes < suc top
        → (here ≡ Some note) ⊎ (reached_epoch r notes span top ≡ Some note)
        → (reached_epoch r notes span top ≡ Some note → Entering notes note) → Entering notes note
    by_case above (inl e) later =
        let (c, at, f) =
        map_some (Note.Epoch (suc top)) (at_height r notes (suc top * span)) note e in
        record { epoch = suc top; by = c; is = sym f; above = above }
    by_case above (inr e) later = later e

    go : (nat_le (suc top) (epoch_of notes) ≡ true) ⊎ (nat_le (suc top) (epoch_of notes) ≡ false)
        → (reached_epoch r notes span top ≡ Some note → Entering notes note) → Entering notes note
    go (inl t) later =
        cc
        (sym
        (cond-true (nat_le (suc top) (epoch_of notes)) None
        (option_or here (reached_epoch r notes span top)) t)
        ∙ h)
    go (inr f) later =
        by_case (omega (arith, leb-false (suc top) (epoch_of notes) f))
        (or_some here (reached_epoch r notes span top) note
        (sym
        (cond-false (nat_le (suc top) (epoch_of notes)) None
        (option_or here (reached_epoch r notes span top)) f)
        ∙ h))
        later

greatest_push : (xs : List ℕ) (n : ℕ) → greatest (xs ++ n ∷ []) ≡ max (greatest xs) n
greatest_push [] n = omega arith
greatest_push (x ∷ xs) n = let e = greatest_push xs n in omega arith

entered_epoch : (notes : List Note) (epoch : ℕ) (c : Commitment) → epoch_of notes < epoch
    → epoch_of (notes ++ Note.Epoch epoch c ∷ []) ≡ epoch
entered_epoch notes epoch c h =
    ap greatest (filter_map-append entered notes (Note.Epoch epoch c ∷ []))
    ∙ (greatest_push (filter_map entered notes) epoch ∙ omega (arith, h))

module _ (r : Rules) (notes : List Note) (epoch : ℕ) (c0 : Commitment) where
  abbrev after : List Note
  after = notes ++ Note.Epoch epoch c0 ∷ []

  first_same : (c : Commitment) (xs : List Note)
      → first_some (noted_block_of c) (xs ++ Note.Epoch epoch c0 ∷ [])
      ≡ first_some (noted_block_of c) xs
  first_same c [] = refl
  first_same c (x ∷ xs) = ap (option_or (noted_block_of c x)) (first_same c xs)

  held_same : (c : Commitment) → held r after c ≡ held r notes c
  held_same c = go (same_commitment c (genesis_commitment r))
    where
      low : ℕ → Block → Option Block
      low g x = cond (nat_lt 0 x.height && nat_lt x.height g) None (Some x)

      go : (t : Bool)
          → cond t (Some (genesis r))
          (option_and_then (low (greatest_prune after)) (first_some (noted_block_of c) after))
          ≡ cond t (Some (genesis r))
          (option_and_then (low (greatest_prune notes))
          (first_some (noted_block_of c) notes))
      go true = refl
      go false =
          ap (option_and_then (low (greatest_prune after))) (first_same c notes)
          ∙ ap (λ g. option_and_then (low g) (first_some (noted_block_of c) notes))
          (prune_same notes (Note.Epoch epoch c0) refl)

  reached_same : (steps h : ℕ) (c : Commitment) (b : Block)
      → reached r after steps h c b ≡ reached r notes steps h c b
  reached_same zero h c b = refl
  reached_same (suc steps) h c b = go (b.height == h) (reached_same steps h b.context.parent)
    where
      up : Block → Option Block
      up a = cond (a.height + 1 == b.height) (Some a) None

      by_parent : ((a : Block)
          → reached r after steps h b.context.parent a ≡ reached r notes steps h b.context.parent a)
          → (o : Option Block)
          → option_and_then (reached r after steps h b.context.parent) o
          ≡ option_and_then (reached r notes steps h b.context.parent) o
      by_parent later None = refl
      by_parent later (Some a) = later a

      go : (t : Bool)
          → ((a : Block)
          → reached r after steps h b.context.parent a
          ≡ reached r notes steps h b.context.parent a)
          → cond t (Some c)
          (option_and_then (reached r after steps h b.context.parent)
          (option_and_then up (held r after b.context.parent)))
          ≡ cond t (Some c)
          (option_and_then (reached r notes steps h b.context.parent)
          (option_and_then up (held r notes b.context.parent)))
      go true later = refl
      go false later =
          by_parent later (option_and_then up (held r after b.context.parent))
          ∙ ap
          (λ o. option_and_then (reached r notes steps h b.context.parent)
          (option_and_then up o))
          (held_same b.context.parent)

  finals_same : filter_map finalization_of after ≡ filter_map finalization_of notes
  finals_same =
      filter_map-append finalization_of notes (Note.Epoch epoch c0 ∷ [])
      ∙ append-nil (filter_map finalization_of notes)

  at_height_same : (h : ℕ) → at_height r after h ≡ at_height r notes h
  at_height_same h =
      ap (λ o. cond (h == 0) (Some (genesis_commitment r)) o)
      (ap (first_some (each after)) finals_same ∙ by_list (filter_map finalization_of notes))
    where
      each : List Note → Proposal → Option Commitment
      each ns p = option_and_then (λ b. reached r ns b.height h p.payload b) (held r ns p.payload)

      by_held : (p : Proposal) (o : Option Block)
          → option_and_then (λ b. reached r after b.height h p.payload b) o
          ≡ option_and_then (λ b. reached r notes b.height h p.payload b) o
      by_held p None = refl
      by_held p (Some b) = reached_same b.height h p.payload b

      by_list : (ps : List Proposal) → first_some (each after) ps ≡ first_some (each notes) ps
      by_list [] = refl
      by_list (p ∷ ps) =
          ap (λ o. option_or o (first_some (each after) ps))
          (by_held p (held r after p.payload)
          ∙ ap (option_and_then (λ b. reached r notes b.height h p.payload b))
          (held_same p.payload))
          ∙ ap (option_or (each notes p)) (by_list ps)

  heights_same : final_heights r after ≡ final_heights r notes
  heights_same =
      ap (filter_map (height after)) finals_same ∙ by_list (filter_map finalization_of notes)
    where
      height : List Note → Proposal → Option ℕ
      height ns p = option_map (λ (b : Block). b.height) (held r ns p.payload)

      by_list : (ps : List Proposal) → filter_map (height after) ps ≡ filter_map (height notes) ps
      by_list [] = refl
      by_list (p ∷ ps) =
          ap
          (λ o. cons_option (option_map (λ (b : Block). b.height) o)
          (filter_map (height after) ps))
          (held_same p.payload)
          ∙ ap (cons_option (height notes p)) (by_list ps)

  -- no greater epoch is reached
  none_after : (span top : ℕ) → epoch_of after ≡ epoch
      → reached_epoch r notes span top ≡ Some (Note.Epoch epoch c0)
      → reached_epoch r after span top ≡ None
  none_after span zero e h = refl
  none_after span (suc top) e h =
      go (cases_Bool (nat_le (suc top) (epoch_of after))) (none_after span top e)
    where
      here : Option Note
      here = option_map (Note.Epoch (suc top)) (at_height r notes (suc top * span))

      here' : Option Note
      here' = option_map (Note.Epoch (suc top)) (at_height r after (suc top * span))

      old : Option Note
      old = reached_epoch r notes span top

      new : Option Note
      new = reached_epoch r after span top

      by_at : epoch < suc top → (o : Option Commitment) → at_height r notes (suc top * span) ≡ o
          → option_or (option_map (Note.Epoch (suc top)) o) old ≡ Some (Note.Epoch epoch c0)
          → (old ≡ Some (Note.Epoch epoch c0) → new ≡ None) → option_or here' new ≡ None
      by_at lt None f g later =
          ap (λ o. option_or (option_map (Note.Epoch (suc top)) o) new)
          (at_height_same (suc top * span) ∙ f)
          ∙ later g
      by_at lt (Some c) f g later =
          let s : suc top ≡ epoch =
          same_Some (suc top) epoch (ap (λ o. option_and_then entered o) g) in
          absurd (omega arith)

      by_old : epoch < suc top
          → (nat_le (suc top) (epoch_of notes) ≡ true) ⊎ (nat_le (suc top) (epoch_of notes) ≡ false)
          → (old ≡ Some (Note.Epoch epoch c0) → new ≡ None) → option_or here' new ≡ None
      by_old lt (inl t) later =
          cc (sym (cond-true (nat_le (suc top) (epoch_of notes)) None (option_or here old) t) ∙ h)
      by_old lt (inr f) later =
          by_at lt (at_height r notes (suc top * span)) refl
          (sym (cond-false (nat_le (suc top) (epoch_of notes)) None (option_or here old) f) ∙ h)
          later

      go : (nat_le (suc top) (epoch_of after) ≡ true) ⊎ (nat_le (suc top) (epoch_of after) ≡ false)
          → (old ≡ Some (Note.Epoch epoch c0) → new ≡ None)
          → cond (nat_le (suc top) (epoch_of after)) None (option_or here' new) ≡ None
      go (inl t) later = cond-true (nat_le (suc top) (epoch_of after)) None (option_or here' new) t
      go (inr f) later =
          cond-false (nat_le (suc top) (epoch_of after)) None (option_or here' new) f
          ∙ by_old (omega (arith, leb-false (suc top) (epoch_of after) f, e))
          (cases_Bool (nat_le (suc top) (epoch_of notes))) later

-- after a note that enters an epoch none is owed that enters another
pub epoch_ends : (r : Rules) (s : State) (note : Note) → epoch_owed r s ≡ Some note
    → epoch_owed r (with_notes s (note ∷ [])) ≡ None
epoch_ends r s note h =
    let (span, e, f) =
    and_then_some (λ span. reached_epoch r s.notes span (top_epoch r s.notes span))
    r.epochs.span note h in
    let q = entering r s.notes span (top_epoch r s.notes span) note f in
    let g = subst (λ n. reached_epoch r s.notes span (top_epoch r s.notes span) ≡ Some n) q.is f in
    let n =
    none_after r s.notes q.epoch q.by span (top_epoch r s.notes span)
    (entered_epoch s.notes q.epoch q.by q.above) g in
    let k : reached_epoch r (after r s.notes q.epoch q.by) span
    (top_epoch r (after r s.notes q.epoch q.by) span)
    ≡ None =
    ap (λ hs. reached_epoch r (after r s.notes q.epoch q.by) span (greatest hs / span))
    (heights_same r s.notes q.epoch q.by)
    ∙ n in
    ap
    (option_and_then
    (λ span. reached_epoch r (s.notes ++ note ∷ []) span
    (top_epoch r (s.notes ++ note ∷ []) span)))
    e
    ∙ subst
    (λ m. reached_epoch r (s.notes ++ m ∷ []) span (top_epoch r (s.notes ++ m ∷ []) span)
    ≡ None)
    (sym q.is) k

-- an owed note sets a mark, or enters an epoch
data Moves (r : Rules) (ts : List Mark) (s : State) (note : Note) : Type 0 where
  Marks : Sets r ts s note → Moves r ts s note
  Enters : epoch_owed r s ≡ Some note → is_prune note ≡ false → Sub (of_note note) ts
      → Moves r ts s note

epoch_moves : (r : Rules) (ts : List Mark) (s : State) (note : Note) → epoch_owed r s ≡ Some note
    → Moves r ts s note
epoch_moves r ts s note h =
    let (span, e, f) =
    and_then_some (λ span. reached_epoch r s.notes span (top_epoch r s.notes span))
    r.epochs.span note h in
    let q = entering r s.notes span (top_epoch r s.notes span) note f in
    Enters h (ap is_prune q.is) (λ t i. absurd (subst (λ n. In t (of_note n)) q.is i))

-- how many notes more may be owed: two for each mark that isn't set, and one where an epoch is owed
waits : Option Note → ℕ
waits None = 0
waits (Some note) = 1

waits_one : (o : Option Note) → waits o ≤ 1
unfolding waits
waits_one None = omega arith
waits_one (Some note) = omega arith

waits_some : (o : Option Note) (note : Note) → o ≡ Some note → waits o ≡ 1
unfolding waits
waits_some o note e = ap waits e

waits_none : (o : Option Note) → o ≡ None → waits o ≡ 0
unfolding waits
waits_none o e = ap waits e

left : Rules → List Mark → State → ℕ
left r ts s = 2 * unset ts s.notes + waits (epoch_owed r s)

moves_less : (r : Rules) (ts : List Mark) → AllByRecursion Stays ts → (s : State) (note : Note)
    → Moves r ts s note → left r ts (with_notes s (note ∷ [])) < left r ts s
unfolding left
moves_less r ts a s note (Marks q) =
    omega (
      arith,
      unset_less ts a s.notes note q.kept q.mark q.there q.off q.on,
      waits_one (epoch_owed r (with_notes s (note ∷ []))),
    )
moves_less r ts a s note (Enters h p sub) = go (epoch_ends r s note h)
  where
    go : epoch_owed r (with_notes s (note ∷ [])) ≡ None
        → 2 * unset ts (s.notes ++ note ∷ []) + waits (epoch_owed r (with_notes s (note ∷ [])))
        < 2 * unset ts s.notes + waits (epoch_owed r s)
    go e =
        omega (
          arith,
          waits_some (epoch_owed r s) note h,
          waits_none (epoch_owed r (with_notes s (note ∷ []))) e,
          unset_no_more ts a s.notes note p,
        )

moves_names : (r : Rules) (ts : List Mark) (s : State) (note : Note) → Moves r ts s note
    → Sub (of_note note) ts
moves_names r ts s note (Marks q) = q.names
moves_names r ts s note (Enters h p sub) = sub

-- an owed note sets a mark
owed_moves : (r : Rules) (ts : List Mark) (id : ℕ) (s : State) (note : Note) → IsCovered r ts s
    → owed r id s ≡ Some note → Moves r ts s note
owed_moves r ts id s note k h = one (or_some a1 r1 note h)
  where
    Q : Note → Type 0
    Q = Moves r ts s

    a1 : Option Note
    a1 = first_some (block_owed r s) (named_commitments r s)

    a2 : Option Note
    a2 = first_some (cert_owed r id s) (named_votes s)

    a3 : Option Note
    a3 = first_some (certified_owed r s) (named_proposals s)

    a4 : Option Note
    a4 = first_some (floor_owed r s) s.came.wishes

    a5 : Option Note
    a5 = epoch_owed r s

    a6 : Option Note
    a6 = first_some (notarize_owed r id s) (named_proposals s)

    a7 : Option Note
    a7 = first_some (finalize_owed r id s) (named_proposals s)

    r5 : Option Note
    r5 = option_or a6 a7

    r4 : Option Note
    r4 = option_or a5 r5

    r3 : Option Note
    r3 = option_or a4 r4

    r2 : Option Note
    r2 = option_or a3 r3

    r1 : Option Note
    r1 = option_or a2 r2

    six : (a6 ≡ Some note) ⊎ (a7 ≡ Some note) → Q note
    six (inl e) =
        first_some_at (notarize_owed r id s) (λ p. Sub (five p) ts) Q (named_proposals s)
        k.proposals (λ p n u f. Marks (notarize_sets r ts id s p n u f)) note e
    six (inr e) =
        first_some_at (finalize_owed r id s) (λ p. Sub (five p) ts) Q (named_proposals s)
        k.proposals (λ p n u f. Marks (finalize_sets r ts id s p n u f)) note e

    five_case : (a5 ≡ Some note) ⊎ (r5 ≡ Some note) → Q note
    five_case (inl e) = epoch_moves r ts s note e
    five_case (inr e) = six (or_some a6 a7 note e)

    four : (a4 ≡ Some note) ⊎ (r4 ≡ Some note) → Q note
    four (inl e) =
        first_some_at (floor_owed r s) (λ c. In (of_wish r c) ts) Q s.came.wishes k.wishes
        (λ c n u f. Marks (floor_sets r ts s c n u f)) note e
    four (inr e) = five_case (or_some a5 r5 note e)

    three : (a3 ≡ Some note) ⊎ (r3 ≡ Some note) → Q note
    three (inl e) =
        first_some_at (certified_owed r s) (λ p. Sub (five p) ts) Q (named_proposals s) k.proposals
        (λ p n u f. Marks (certified_sets r ts s p n u f)) note e
    three (inr e) = four (or_some a4 r4 note e)

    two : (a2 ≡ Some note) ⊎ (r2 ≡ Some note) → Q note
    two (inl e) =
        first_some_at (cert_owed r id s) (λ v. Sub (of_vote v) ts) Q (named_votes s) k.votes
        (λ v n u f. Marks (cert_sets r ts id s v n u f)) note e
    two (inr e) = three (or_some a3 r3 note e)

    one : (a1 ≡ Some note) ⊎ (r1 ≡ Some note) → Q note
    one (inl e) =
        first_some_at (block_owed r s) (λ c. In (λ ns. has_block ns c) ts) Q (named_commitments r s)
        k.commitments (λ c n u f. Marks (block_sets r ts s c n u f)) note e
    one (inr e) = two (or_some a2 r2 note e)

-- ---- what a state names is covered by its marks, and by those of the state before an owed note

-- the five of a vote's proposal are the vote's
five_of : (v : Vote) (p : Proposal) → proposal_of v ≡ Some p → Sub (five p) (of_vote v)
five_of (Notarize q) p e t i =
    let s : q ≡ p = same_Some q p e in subst (λ x. In t (five x)) (sym s) i
five_of (Nullify d v) p e t i = cc
five_of (Finalize q) p e t i =
    let s : q ≡ p = same_Some q p e in subst (λ x. In t (five x)) (sym s) i

-- what a note names
note_vote_sub : (n : Note) (v : Vote) → note_vote n ≡ Some v → Sub (of_vote v) (of_note n)
note_vote_sub (Note.Vote w) v e t i = subst (λ x. In t (of_vote x)) (sym (same_Some w v e)) i
note_vote_sub (Note.Cert s) v e t i = subst (λ x. In t (of_vote x)) (sym (same_Some s.vote v e)) i
note_vote_sub (Note.Block c b) v e t i = cc
note_vote_sub (Note.Verified d w c) v e t i = cc
note_vote_sub (Note.Epoch d c) v e t i = cc
note_vote_sub (Note.Certified p) v e t i = cc
note_vote_sub (Note.Ack h) v e t i = cc
note_vote_sub (Note.Floor h) v e t i = cc
note_vote_sub (Note.Prune h) v e t i = cc

note_proposal_sub : (n : Note) (p : Proposal) → note_proposal n ≡ Some p → Sub (five p) (of_note n)
note_proposal_sub (Note.Vote w) p e t i = five_of w p e t i
note_proposal_sub (Note.Cert s) p e t i = five_of s.vote p e t i
note_proposal_sub (Note.Certified q) p e t i = subst (λ x. In t (five x)) (sym (same_Some q p e)) i
note_proposal_sub (Note.Block c b) p e t i = cc
note_proposal_sub (Note.Verified d w c) p e t i = cc
note_proposal_sub (Note.Epoch d c) p e t i = cc
note_proposal_sub (Note.Ack h) p e t i = cc
note_proposal_sub (Note.Floor h) p e t i = cc
note_proposal_sub (Note.Prune h) p e t i = cc

-- of a list of things that may name something
module _ {X Y : Type 0} (f : X → Option Y) (marks_of : X → List Mark) (need : Y → List Mark)
    (sub : (x : X) (y : Y) → f x ≡ Some y → Sub (need y) (marks_of x)) where
  named_by : (ts : List Mark) (xs : List X) → ((x : X) → In x xs → Sub (marks_of x) ts)
      → AllByRecursion (λ y. Sub (need y) ts) (filter_map f xs)
  named_by ts [] h = tt
  named_by ts (x ∷ xs) h = go (f x) refl (named_by ts xs (λ y i. h y (inr i)))
    where
      go : (o : Option Y) → f x ≡ o → AllByRecursion (λ y. Sub (need y) ts) (filter_map f xs)
          → AllByRecursion (λ y. Sub (need y) ts) (cons_option o (filter_map f xs))
      go None e a = a
      go (Some y) e a = ((λ t i. h x (inl refl) t (sub x y e t i)), a)

flat_in : {X : Type 0} (f : X → List Mark) (x : X) (xs : List X) → In x xs
    → Sub (f x) (flat_map f xs)
flat_in f x [] i t j = absurd i
flat_in f x (y ∷ ys) (inl e) t j = in_left t (f y) (flat_map f ys) (subst (λ z. In t (f z)) e j)
flat_in f x (y ∷ ys) (inr i) t j = in_right t (f y) (flat_map f ys) (flat_in f x ys i t j)

map_votes : (ts : List Mark) (xs : List Ballot)
    → ((x : Ballot) → In x xs → Sub (of_vote (ballot_vote x)) ts)
    → AllByRecursion (λ v. Sub (of_vote v) ts) (map ballot_vote xs)
map_votes ts [] h = tt
map_votes ts (x ∷ xs) h = (h x (inl refl), map_votes ts xs (λ y i. h y (inr i)))

map_in : {X Y : Type 0} (f : X → Y) (g : Y → Mark) (ts : List Mark) (xs : List X)
    → Sub (map (λ x. g (f x)) xs) ts → AllByRecursion (λ y. In (g y) ts) (map f xs)
map_in f g ts [] h = tt
map_in f g ts (x ∷ xs) h = (h (g (f x)) (inl refl), map_in f g ts xs (λ t i. h t (inr i)))

wishes_in : (r : Rules) (ts : List Mark) (xs : List Commitment) → Sub (map (of_wish r) xs) ts
    → AllByRecursion (λ c. In (of_wish r c) ts) xs
wishes_in r ts [] h = tt
wishes_in r ts (x ∷ xs) h = (h (of_wish r x) (inl refl), wishes_in r ts xs (λ t i. h t (inr i)))

covered : (r : Rules) (s : State) → IsCovered r (all_marks r s) s
covered r s = record {
  votes =
      all_both (λ v. Sub (of_vote v) ts) (map ballot_vote s.came.ballots)
      (filter_map note_vote s.notes) (map_votes ts s.came.ballots by_ballot)
      (named_by note_vote of_note of_vote note_vote_sub ts s.notes by_note);
  proposals =
      all_both (λ p. Sub (five p) ts) (filter_map (λ x. proposal_of (ballot_vote x)) s.came.ballots)
      (filter_map note_proposal s.notes)
      (named_by (λ x. proposal_of (ballot_vote x)) (λ x. of_vote (ballot_vote x)) five
      (λ x. five_of (ballot_vote x)) ts s.came.ballots by_ballot)
      (named_by note_proposal of_note five note_proposal_sub ts s.notes by_note);
  commitments =
      map_in (part_commitment r) (λ c ns. has_block ns c) ts s.came.parts
      (λ t i. in_left t (a ++ b ++ c) d (in_left t (a ++ b) c (in_right t a b i)));
  wishes =
      wishes_in r ts s.came.wishes (λ t i. in_left t (a ++ b ++ c) d (in_right t (a ++ b) c i));
}
  where
    ts : List Mark
    ts = all_marks r s

    a : List Mark
    a = flat_map (λ x. of_vote (ballot_vote x)) s.came.ballots

    b : List Mark
    b = map (λ x ns. has_block ns (part_commitment r x)) s.came.parts

    c : List Mark
    c = map (of_wish r) s.came.wishes

    d : List Mark
    d = flat_map of_note s.notes

    by_ballot : (x : Ballot) → In x s.came.ballots → Sub (of_vote (ballot_vote x)) ts
    by_ballot x i t j =
        in_left t (a ++ b ++ c) d
        (in_left t (a ++ b) c
        (in_left t a b (flat_in (λ y. of_vote (ballot_vote y)) x s.came.ballots i t j)))

    by_note : (x : Note) → In x s.notes → Sub (of_note x) ts
    by_note x i t j = in_right t (a ++ b ++ c) d (flat_in of_note x s.notes i t j)

covered_more : (r : Rules) (ts : List Mark) (s : State) (note : Note) → IsCovered r ts s
    → Sub (of_note note) ts → IsCovered r ts (with_notes s (note ∷ []))
covered_more r ts s note k sub = record {
  votes =
      subst (λ xs. AllByRecursion (λ v. Sub (of_vote v) ts) (map ballot_vote s.came.ballots ++ xs))
      (sym (filter_map-append note_vote s.notes (note ∷ [])))
      (subst (AllByRecursion (λ v. Sub (of_vote v) ts))
      (append_assoc (map ballot_vote s.came.ballots) (filter_map note_vote s.notes)
      (filter_map note_vote (note ∷ [])))
      (all_both (λ v. Sub (of_vote v) ts) (named_votes s) (filter_map note_vote (note ∷ [])) k.votes
      (named_by note_vote of_note of_vote note_vote_sub ts (note ∷ []) own)));
  proposals =
      subst
      (λ xs. AllByRecursion (λ p. Sub (five p) ts)
      (filter_map (λ x. proposal_of (ballot_vote x)) s.came.ballots ++ xs))
      (sym (filter_map-append note_proposal s.notes (note ∷ [])))
      (subst (AllByRecursion (λ p. Sub (five p) ts))
      (append_assoc (filter_map (λ x. proposal_of (ballot_vote x)) s.came.ballots)
      (filter_map note_proposal s.notes) (filter_map note_proposal (note ∷ [])))
      (all_both (λ p. Sub (five p) ts) (named_proposals s) (filter_map note_proposal (note ∷ []))
      k.proposals (named_by note_proposal of_note five note_proposal_sub ts (note ∷ []) own)));
  commitments = k.commitments;
  wishes = k.wishes;
}
  where
    own : (x : Note) → In x (note ∷ []) → Sub (of_note x) ts
    own x (inl e) t j = sub t (subst (λ n. In t (of_note n)) e j)
    own x (inr i) t j = absurd i

-- ---- the end

settle_ends : (r : Rules) (id : ℕ) (ts : List Mark) → AllByRecursion Stays ts
    → (steps : ℕ) (s : State) → IsCovered r ts s → left r ts s ≤ steps
    → owed r id (with_notes s (settle r id steps s)) ≡ None
settle_ends r id ts a zero s k le =
    subst (λ ns. owed r id (record { notes = ns; came = s.came; given = s.given }) ≡ None)
    (sym (append-nil s.notes)) (go (owed r id s) refl)
  where
    go : (o : Option Note) → owed r id s ≡ o → owed r id s ≡ None
    go None e = e
    go (Some note) e =
        absurd (omega (arith, moves_less r ts a s note (owed_moves r ts id s note k e)))
settle_ends r id ts a (suc steps) s k le =
    go (owed r id s) refl (λ note. settle_ends r id ts a steps (with_notes s (note ∷ [])))
  where
    rest : Note → List Note
    rest note = settle r id steps (with_notes s (note ∷ []))

    at : List Note → Type 0
    at ns = owed r id (record { notes = ns; came = s.came; given = s.given }) ≡ None

    go : (o : Option Note) → owed r id s ≡ o
        → ((note : Note) → IsCovered r ts (with_notes s (note ∷ []))
        → left r ts (with_notes s (note ∷ [])) ≤ steps
        → at ((s.notes ++ note ∷ []) ++ rest note))
        → at (s.notes ++ option_map_or (λ note. note ∷ rest note) o [])
    go None e later = subst at (sym (append-nil s.notes)) e
    go (Some note) e later =
        let q = owed_moves r ts id s note k e in
        subst at (append_assoc s.notes (note ∷ []) (rest note))
        (later note (covered_more r ts s note k (moves_names r ts s note q))
        (omega (arith, moves_less r ts a s note q)))

left_enough : (r : Rules) (s : State) → left r (all_marks r s) s ≤ marks s
unfolding left
left_enough r s =
    omega (
      arith,
      unset_length (all_marks r s) s.notes,
      marks_enough r s,
      waits_one (epoch_owed r s),
    )

-- after a settling nothing is owed
pub settled_all : (r : Rules) (id : ℕ) (s : State)
    → owed r id (with_notes s (settle r id (marks s) s)) ≡ None
settled_all r id s =
    settle_ends r id (all_marks r s) (all_stay r s) (marks s) s (covered r s) (left_enough r s)

-- after a step's notes nothing is owed
pub step_ends : (r : Rules) (id : ℕ) (s : State) (e : Event)
    → owed r id (with_notes s (step_notes r id s e)) ≡ None
step_ends r id s e =
    let first = direct r id s e in
    let after = with_notes s first in
    subst (λ ns. owed r id (record { notes = ns; came = s.came; given = s.given }) ≡ None)
    (append_assoc s.notes first (settle r id (marks after) after)) (settled_all r id after)
