-- Notes that hide no block and give up no height leave all that is held and reached.
use Rattle.std.proofs.Common.{◌≡◌, ℕ, zero, suc, ◌+◌, Bool, true, false, ◌&&◌, ◌||◌, ◌==◌, cond, max, nat_lt, nat_le, not, List, [], ◌∷◌, ◌++◌, Option, Some, None, filter_map, option_map, option_and_then, refl, sym, ◌∙◌, ap, subst, inl, inr, ◌⊎◌, append-nil}
use Rattle.std.specs.Prelude.{IsSome, if◌then◌else◌}
use Rattle.std.specs.List.{AllByRecursion, cons_option, last_or, list_all}
use Rattle.std.specs.Option.{option_map_or, option_or}
use Rattle.std.proofs.lemmas.Bool.{cases_Bool, cond-true, cond-false, false≢true}
use Rattle.std.proofs.lemmas.List.Elements.{filter_map-append}
use Rattle.std.proofs.lemmas.List.Folds.{list_any-append}
use Rattle.cw_types.specs.declared.commitment.Commitment.{Commitment}
use Rattle.cw_types.specs.declared.note.Note.{Note}
use Rattle.cw_types.specs.declared.vote.Proposal.{Proposal}
use Rattle.cw_types.specs.declared.vote.Vote.{Vote}
use Rattle.cw_types.specs.declared.vote.Vote.TheVariants.{Finalize, Notarize}
use Rattle.cw_types.specs.Block.{Block}
use Rattle.cw_types.specs.Same.{same_commitment}
use Rattle.cw_rules.specs.Accepted.{State, first_some}
use Rattle.cw_rules.specs.Chains.{noted_block}
use Rattle.cw_rules.specs.Held.{at_height, finalization_of, floor_height, greatest_floor, greatest_prune, held, next_of, noted_block_of, parent_of, pruned_height, reached, resume, shown}
use Rattle.cw_rules.specs.Notes.{greatest, has_block, has_cert, is_block}
use Rattle.cw_rules.specs.Owed.{block_owed, cert_owed, certified_owed, epoch_owed, finalize_owed, floor_owed, named_commitments, named_proposals, named_votes, notarize_owed, owed, reached_epoch, signers_of, top_epoch, when}
use Rattle.cw_rules.specs.Rules.{Rules, genesis, genesis_commitment}
use Rattle.cw_rules.specs.Step.{settle, with_notes}
use Rattle.cw_rules.proofs.Lists.{and_then_some, first_of_both, map_some, same_first, when_some}
use Rattle.cw_progress.proofs.Rests.{epoch_is, first_found, or_split}

-- a note of no block, that gives up no height and lets no block go
pub record IsMild (n : Note) : Type 0 where
  pub floor : floor_height n ≡ None
  pub prune : pruned_height n ≡ None
  pub block : noted_block n ≡ None
  pub under : (c : Commitment) → noted_block_of c n ≡ None
  pub no_block : (c : Commitment) → is_block c n ≡ false

abbrev pub AreMild : List Note → Type 0
AreMild notes = AllByRecursion IsMild notes

pub mild_ack : (h : ℕ) → IsMild (Note.Ack h)
mild_ack h = record {
  floor = refl;
  prune = refl;
  block = refl;
  under = λ c. refl;
  no_block = λ c. refl;
}

mild_vote : (v : Vote) → IsMild (Note.Vote v)
mild_vote v = record {
  floor = refl;
  prune = refl;
  block = refl;
  under = λ c. refl;
  no_block = λ c. refl;
}

-- ---- notes with mild ones behind

-- what no note behind gives
mapped_none : {Y : Type 0} (f : Note → Option Y) → ((n : Note) → IsMild n → f n ≡ None)
    → (more : List Note) → AreMild more → filter_map f more ≡ []
mapped_none f none [] a = refl
mapped_none f none (n ∷ ns) a =
    ap (λ o. cons_option o (filter_map f ns)) (none n a.0) ∙ mapped_none f none ns a.1

mapped_same : {Y : Type 0} (f : Note → Option Y) → ((n : Note) → IsMild n → f n ≡ None)
    → (xs more : List Note) → AreMild more → filter_map f (xs ++ more) ≡ filter_map f xs
mapped_same f none xs more a =
    filter_map-append f xs more
    ∙ (ap (λ ys. filter_map f xs ++ ys) (mapped_none f none more a) ∙ append-nil (filter_map f xs))

module _ (xs more : List Note) (a : AreMild more) where
  pub floors_same : filter_map floor_height (xs ++ more) ≡ filter_map floor_height xs
  floors_same = mapped_same floor_height (λ n m. m.floor) xs more a

  pub floor_same : greatest_floor (xs ++ more) ≡ greatest_floor xs
  floor_same = ap greatest floors_same

  pub prune_same : greatest_prune (xs ++ more) ≡ greatest_prune xs
  prune_same = ap greatest (mapped_same pruned_height (λ n m. m.prune) xs more a)

  pub blocks_same : filter_map noted_block (xs ++ more) ≡ filter_map noted_block xs
  blocks_same = mapped_same noted_block (λ n m. m.block) xs more a

has_none : (c : Commitment) (more : List Note) → AreMild more → has_block more c ≡ false
has_none c [] a = refl
has_none c (n ∷ ns) a = ap (λ b. b || has_block ns c) (a.0.no_block c) ∙ has_none c ns a.1

or_false : (b : Bool) → (b || false) ≡ b
or_false true = refl
or_false false = refl

has_same : (xs more : List Note) → AreMild more → (c : Commitment)
    → has_block (xs ++ more) c ≡ has_block xs c
has_same xs more a c =
    list_any-append (is_block c) xs more
    ∙ (ap (λ b. has_block xs c || b) (has_none c more a) ∙ or_false (has_block xs c))

under_none : (c : Commitment) (more : List Note) → AreMild more
    → first_some (noted_block_of c) more ≡ None
under_none c [] a = refl
under_none c (n ∷ ns) a =
    ap (λ o. option_or o (first_some (noted_block_of c) ns)) (a.0.under c) ∙ under_none c ns a.1

or_nothing : {Y : Type 0} (o : Option Y) → option_or o None ≡ o
or_nothing None = refl
or_nothing (Some y) = refl

under_same : (xs more : List Note) → AreMild more → (c : Commitment)
    → first_some (noted_block_of c) (xs ++ more) ≡ first_some (noted_block_of c) xs
under_same xs more a c =
    first_of_both (noted_block_of c) xs more
    ∙ (ap (option_or (first_some (noted_block_of c) xs)) (under_none c more a)
    ∙ or_nothing (first_some (noted_block_of c) xs))

module _ (r : Rules) (xs more : List Note) (a : AreMild more) where
  pub held_alike : (c : Commitment) → held r (xs ++ more) c ≡ held r xs c
  held_alike c =
      λ i. if same_commitment c (genesis_commitment r) then Some (genesis r)
      else option_and_then
      (λ b. if nat_lt 0 b.height && nat_lt b.height (prune_same xs more a i) then None
      else Some b)
      (under_same xs more a c i)

  parent_alike : (b : Block) → parent_of r (xs ++ more) b ≡ parent_of r xs b
  parent_alike b =
      ap (option_and_then (λ (x : Block). if x.height + 1 == b.height then Some x else None))
      (held_alike b.context.parent)

  reached_alike : (steps h : ℕ) (c : Commitment) (b : Block)
      → reached r (xs ++ more) steps h c b ≡ reached r xs steps h c b
  reached_alike zero h c b = refl
  reached_alike (suc steps) h c b =
      λ i. if b.height == h then Some c
      else option_and_then (λ x. reached_alike steps h b.context.parent x i) (parent_alike b i)

  -- what is reached at a height stays so
  pub at_stays : (h : ℕ) (c : Commitment) → at_height r xs h ≡ Some c
      → at_height r (xs ++ more) h ≡ Some c
  at_stays h c e = go (cases_Bool (h == 0))
    where
      from : List Note → Proposal → Option Commitment
      from ns p = option_and_then (λ b. reached r ns b.height h p.payload b) (held r ns p.payload)

      first : List Note → List Note → Option Commitment
      first ns ms = first_some (from ns) (filter_map finalization_of ms)

      from_alike : (p : Proposal) → from (xs ++ more) p ≡ from xs p
      from_alike p =
          λ i. option_and_then (λ b. reached_alike b.height h p.payload b i)
          (held_alike p.payload i)

      here : first xs xs ≡ Some c → first (xs ++ more) (xs ++ more) ≡ Some c
      here f =
          ap (first_some (from (xs ++ more))) (filter_map-append finalization_of xs more)
          ∙ (first_of_both (from (xs ++ more)) (filter_map finalization_of xs)
          (filter_map finalization_of more)
          ∙ ap (λ o. option_or o (first (xs ++ more) more))
          (same_first (from (xs ++ more)) (from xs) from_alike (filter_map finalization_of xs)
          ∙ f))

      go : ((h == 0) ≡ true) ⊎ ((h == 0) ≡ false) → at_height r (xs ++ more) h ≡ Some c
      go (inl t) =
          cond-true (h == 0) (Some (genesis_commitment r)) (first (xs ++ more) (xs ++ more)) t
          ∙ (sym (cond-true (h == 0) (Some (genesis_commitment r)) (first xs xs) t) ∙ e)
      go (inr f) =
          cond-false (h == 0) (Some (genesis_commitment r)) (first (xs ++ more) (xs ++ more)) f
          ∙ here (sym (cond-false (h == 0) (Some (genesis_commitment r)) (first xs xs) f) ∙ e)

  pub reached_stays : (h : ℕ) → IsSome (at_height r xs h) → IsSome (at_height r (xs ++ more) h)
  reached_stays h some = go (at_height r xs h) refl some
    where
      go : (o : Option Commitment) → at_height r xs h ≡ o → IsSome o
          → IsSome (at_height r (xs ++ more) h)
      go None e t = absurd (false≢true t)
      go (Some c) e t = subst (λ o. IsSome o) (sym (at_stays h c e)) t

-- ---- what settles

-- where something was handed out, the next height is the one above the last, or the floor
pub next_is : (notes : List Note) (given : List ℕ) (g : ℕ) → last_or None given ≡ Some g
    → next_of notes given ≡ max (g + 1) (greatest_floor notes)
next_is notes given g e =
    ap (λ o. max (option_map_or (λ h. h + 1) o (resume notes)) (greatest_floor notes)) e

pub next_alike : (xs more : List Note) → AreMild more → (given : List ℕ) (g : ℕ)
    → last_or None given ≡ Some g → next_of (xs ++ more) given ≡ next_of xs given
next_alike xs more a given g e =
    next_is (xs ++ more) given g e
    ∙ (ap (max (g + 1)) (floor_same xs more a) ∙ sym (next_is xs given g e))

-- no block is owed, and no floor
pub record IsCalm (r : Rules) (s : State) : Type 0 where
  pub blocks : first_some (block_owed r s) (named_commitments r s) ≡ None
  pub floors : first_some (floor_owed r s) s.came.wishes ≡ None

module _ (r : Rules) where
  -- it stays so with mild notes
  pub calm_stays : (s : State) (g : ℕ) → last_or None s.given ≡ Some g → (more : List Note)
      → AreMild more → IsCalm r s → IsCalm r (with_notes s more)
  calm_stays s g e more a k = record {
    blocks =
        same_first (block_owed r (with_notes s more)) (block_owed r s) block_alike
        (named_commitments r s)
        ∙ k.blocks;
    floors =
        same_first (floor_owed r (with_notes s more)) (floor_owed r s) floor_alike s.came.wishes
        ∙ k.floors;
  }
    where
      block_alike : (c : Commitment) → block_owed r (with_notes s more) c ≡ block_owed r s c
      block_alike c =
          λ i. option_and_then
          (λ b. when
          (not (has_same s.notes more a c i)
          && nat_le (max (floor_same s.notes more a i) (prune_same s.notes more a i)) b.height)
          (Note.Block c b))
          (shown r s.came c)

      floor_alike : (c : Commitment) → floor_owed r (with_notes s more) c ≡ floor_owed r s c
      floor_alike c =
          λ i. option_and_then
          (λ b. when
          (nat_le (next_alike s.notes more a s.given g e i) b.height
          && list_all (λ h. nat_lt h b.height) (floors_same s.notes more a i))
          (Note.Floor b.height))
          (held_alike r s.notes more a c i)

  module _ (id : ℕ) where
    -- so what is owed is mild
    owed_mild : (s : State) → IsCalm r s → (note : Note) → owed r id s ≡ Some note → IsMild note
    owed_mild s k note h = one (or_split a1 r1 note h)
      where
        a1 : Option Note
        a1 = first_some (block_owed r s) (named_commitments r s)

        a2 : Option Note
        a2 = first_some (cert_owed r id s) (named_votes s)

        a3 : Option Note
        a3 = first_some (certified_owed r s) (named_proposals s)

        a4 : Option Note
        a4 = first_some (floor_owed r s) s.came.wishes

        a5 : Option Note
        a5 = epoch_owed r s

        a6 : Option Note
        a6 = first_some (notarize_owed r id s) (named_proposals s)

        a7 : Option Note
        a7 = first_some (finalize_owed r id s) (named_proposals s)

        r5 : Option Note
        r5 = option_or a6 a7

        r4 : Option Note
        r4 = option_or a5 r5

        r3 : Option Note
        r3 = option_or a4 r4

        r2 : Option Note
        r2 = option_or a3 r3

        r1 : Option Note
        r1 = option_or a2 r2

        nothing : (o : Option Note) → o ≡ None → o ≡ Some note → IsMild note
        nothing o e f = let x : ◌≡◌ {A = Option Note} None (Some note) = sym e ∙ f in cc x

        six : (a6 ≡ Some note) ⊎ ((a6 ≡ None) × (a7 ≡ Some note)) → IsMild note
        six (inl x) =
            let (p, at, f) = first_found (notarize_owed r id s) (named_proposals s) note x in
            subst IsMild (when_some _ (Note.Vote (Notarize p)) note f).1 (mild_vote (Notarize p))
        six (inr x) =
            let (p, at, f) = first_found (finalize_owed r id s) (named_proposals s) note x.1 in
            subst IsMild (when_some _ (Note.Vote (Finalize p)) note f).1 (mild_vote (Finalize p))

        five : (a5 ≡ Some note) ⊎ ((a5 ≡ None) × (r5 ≡ Some note)) → IsMild note
        five (inl x) =
            let (span, f, g) =
            and_then_some (λ span. reached_epoch r s.notes span (top_epoch r s.notes span))
            r.epochs.span note x in
            let (y, c, same) = epoch_is r s.notes span (top_epoch r s.notes span) note g in
            subst IsMild (sym same) (record {
              floor = refl;
              prune = refl;
              block = refl;
              under = λ c. refl;
              no_block = λ c. refl;
            })
        five (inr x) = six (or_split a6 a7 note x.1)

        four : (a4 ≡ Some note) ⊎ ((a4 ≡ None) × (r4 ≡ Some note)) → IsMild note
        four (inl x) = nothing a4 k.floors x
        four (inr x) = five (or_split a5 r5 note x.1)

        three : (a3 ≡ Some note) ⊎ ((a3 ≡ None) × (r3 ≡ Some note)) → IsMild note
        three (inl x) =
            let (p, at, f) = first_found (certified_owed r s) (named_proposals s) note x in
            subst IsMild (when_some _ (Note.Certified p) note f).1 (record {
              floor = refl;
              prune = refl;
              block = refl;
              under = λ c. refl;
              no_block = λ c. refl;
            })
        three (inr x) = four (or_split a4 r4 note x.1)

        by_cert : (v : Vote) (b : Bool)
            → cond b None
            (option_map (λ signers. Note.Cert (record { vote = v; signers = signers }))
            (signers_of r id s v))
            ≡ Some note
            → IsMild note
        by_cert v true f = cc
        by_cert v false f =
            let (signers, g, same) =
            map_some (λ (signers : List ℕ). Note.Cert (record { vote = v; signers = signers }))
            (signers_of r id s v) note f in
            subst IsMild same (record {
              floor = refl;
              prune = refl;
              block = refl;
              under = λ c. refl;
              no_block = λ c. refl;
            })

        two : (a2 ≡ Some note) ⊎ ((a2 ≡ None) × (r2 ≡ Some note)) → IsMild note
        two (inl x) =
            let (v, at, f) = first_found (cert_owed r id s) (named_votes s) note x in
            by_cert v (has_cert s.notes v) f
        two (inr x) = three (or_split a3 r3 note x.1)

        one : (a1 ≡ Some note) ⊎ ((a1 ≡ None) × (r1 ≡ Some note)) → IsMild note
        one (inl x) = nothing a1 k.blocks x
        one (inr x) = two (or_split a2 r2 note x.1)

    -- and so is all that settles
    pub settle_mild : (steps : ℕ) (s : State) (g : ℕ) → last_or None s.given ≡ Some g
        → IsCalm r s → AreMild (settle r id steps s)
    settle_mild zero s g e k = tt
    settle_mild (suc steps) s g e k =
        go (owed r id s) refl (λ note. settle_mild steps (with_notes s (note ∷ [])) g e)
      where
        go : (o : Option Note) → owed r id s ≡ o
            → ((note : Note) → IsCalm r (with_notes s (note ∷ []))
            → AreMild (settle r id steps (with_notes s (note ∷ []))))
            → AreMild
            (option_map_or (λ note. note ∷ settle r id steps (with_notes s (note ∷ []))) o [])
        go None f later = tt
        go (Some note) f later =
            let mild = owed_mild s k note f in
            (mild, later note (calm_stays s g e (note ∷ []) (mild, tt) k))
