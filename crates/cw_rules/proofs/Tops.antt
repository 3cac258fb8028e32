-- The epoch that is owed is the greatest that is reached.
use Rattle.std.proofs.Common.{◌≡◌, ℕ, zero, suc, ◌+◌, ◌*◌, ◌<◌, ◌≤◌, true, false, ◌==◌, cond, max, nat_le, List, [], ◌∷◌, Option, Some, None, option_map, option_and_then, filter_map, refl, sym, ◌∙◌, ap, subst, inl, inr, ◌⊎◌, arith, eqb-true, ne_eqb}
use Rattle.std.specs.List.{cons_option}
use Rattle.std.specs.Option.{option_or}
use Rattle.std.proofs.lemmas.Bool.{cases_Bool, cases_eq, cases_lt, cond-true, cond-false, leb-true, leb-false}
use Rattle.std.proofs.lemmas.Nat.{le-div}
use Rattle.std.proofs.lemmas.Option.{same_Some}
use Rattle.cw_types.specs.declared.commitment.Commitment.{Commitment}
use Rattle.cw_types.specs.declared.note.Note.{Note}
use Rattle.cw_types.specs.declared.vote.Proposal.{Proposal}
use Rattle.cw_types.specs.Block.{Block}
use Rattle.cw_rules.specs.Accepted.{State, first_some}
use Rattle.cw_rules.specs.Held.{at_height, finalization_of, held, parent_of, reached}
use Rattle.cw_rules.specs.Keeps.{IsGreatest}
use Rattle.cw_rules.specs.Notes.{epoch_of, greatest}
use Rattle.cw_rules.specs.Owed.{epoch_owed, final_heights, reached_epoch, top_epoch}
use Rattle.cw_rules.specs.Rules.{Rules, genesis_commitment}
use Rattle.cw_rules.proofs.Lists.{or_some, and_then_some}
use Rattle.cw_rules.proofs.Fits.{plus_mul}

module _ (r : Rules) (notes : List Note) where
  reached_below : (steps h : ℕ) (c d : Commitment) (b : Block)
      → reached r notes steps h c b ≡ Some d → h ≤ b.height
  reached_below zero h c d b e = go (cases_Bool (b.height == h))
    where
      go : ((b.height == h) ≡ true) ⊎ ((b.height == h) ≡ false) → h ≤ b.height
      go (inl t) = omega (arith, eqb-true b.height h t)
      go (inr f) = cc (cond-false (b.height == h) (Some c) None f)
  reached_below (suc steps) h c d b e =
      go (cases_Bool (b.height == h)) (λ a. reached_below steps h b.context.parent d a)
    where
      more : Option Commitment
      more = option_and_then (reached r notes steps h b.context.parent) (parent_of r notes b)

      up : Block → Option Block
      up a = cond (a.height + 1 == b.height) (Some a) None

      higher : (a y : Block)
          → ((a.height + 1 == b.height) ≡ true) ⊎ ((a.height + 1 == b.height) ≡ false)
          → up a ≡ Some y → y.height + 1 ≡ b.height
      higher a y (inl t) g =
          ap (λ (z : Block). z.height + 1)
          (same_Some y a (sym g ∙ cond-true (a.height + 1 == b.height) (Some a) None t))
          ∙ eqb-true (a.height + 1) b.height t
      higher a y (inr f) g = cc (cond-false (a.height + 1 == b.height) (Some a) None f)

      go : ((b.height == h) ≡ true) ⊎ ((b.height == h) ≡ false)
          → ((a : Block) → reached r notes steps h b.context.parent a ≡ Some d → h ≤ a.height)
          → h ≤ b.height
      go (inl t) later = omega (arith, eqb-true b.height h t)
      go (inr f) later =
          let (y, p, g) =
          and_then_some (reached r notes steps h b.context.parent) (parent_of r notes b) d
          (sym (cond-false (b.height == h) (Some c) more f) ∙ e) in
          let (a, q, u) = and_then_some up (held r notes b.context.parent) y p in
          omega (arith, later y g, higher a y (cases_Bool (a.height + 1 == b.height)) u)

  abbrev height_of : Proposal → Option ℕ
  height_of p = option_map (λ (b : Block). b.height) (held r notes p.payload)

  greatest_more : (o : Option ℕ) (xs : List ℕ) (h : ℕ) → h ≤ greatest xs
      → h ≤ greatest (cons_option o xs)
  greatest_more None xs h le = le
  greatest_more (Some n) xs h le = omega arith

  search_below : (h : ℕ) (c : Commitment) (ps : List Proposal)
      → first_some
      (λ p. option_and_then (λ b. reached r notes b.height h p.payload b)
      (held r notes p.payload))
      ps
      ≡ Some c
      → h ≤ greatest (filter_map height_of ps)
  search_below h c [] e = cc
  search_below h c (p ∷ ps) e = go (held r notes p.payload) refl e (search_below h c ps)
    where
      rest : Option Commitment
      rest =
          first_some
          (λ p. option_and_then (λ b. reached r notes b.height h p.payload b)
          (held r notes p.payload))
          ps

      by_held : (b : Block) → (reached r notes b.height h p.payload b ≡ Some c) ⊎ (rest ≡ Some c)
          → (rest ≡ Some c → h ≤ greatest (filter_map height_of ps))
          → h ≤ max b.height (greatest (filter_map height_of ps))
      by_held b (inl f) later = omega (arith, reached_below b.height h p.payload c b f)
      by_held b (inr f) later = omega (arith, later f)

      go : (o : Option Block) → held r notes p.payload ≡ o
          → option_or (option_and_then (λ b. reached r notes b.height h p.payload b) o) rest
          ≡ Some c
          → (rest ≡ Some c → h ≤ greatest (filter_map height_of ps))
          → h
          ≤ greatest
          (cons_option (option_map (λ (b : Block). b.height) o) (filter_map height_of ps))
      go None f g later = later g
      go (Some b) f g later =
          by_held b (or_some (reached r notes b.height h p.payload b) rest c g) later

  -- what is reached is no higher than what is finalized
  at_below : (h : ℕ) (c : Commitment) → 0 < h → at_height r notes h ≡ Some c
      → h ≤ greatest (final_heights r notes)
  at_below h c pos e =
      search_below h c (filter_map finalization_of notes)
      (sym
      (cond-false (h == 0) (Some (genesis_commitment r))
      (first_some _ (filter_map finalization_of notes)) (ne_eqb h 0 (λ z. omega arith)))
      ∙ e)

  -- no epoch above the top is reached
  top_none : (span epoch : ℕ) → 0 < span → top_epoch r notes span < epoch
      → at_height r notes (epoch * span) ≡ None
  top_none span epoch pos above = go (at_height r notes (epoch * span)) refl
    where
      positive : (epoch : ℕ) → 0 < epoch → 0 < epoch * span
      positive zero h = absurd (omega arith)
      positive (suc e) h = subst (λ n. 0 < n * span) one_more (omega (arith, plus_mul e span))
        where
          one_more : e + 1 ≡ suc e
          one_more = omega arith

      go : (o : Option Commitment) → at_height r notes (epoch * span) ≡ o
          → at_height r notes (epoch * span) ≡ None
      go None e = e
      go (Some c) e =
          absurd
          (omega (
            arith,
            le-div epoch (greatest (final_heights r notes)) span pos
                (at_below (epoch * span) c (positive epoch (omega arith)) e),
          ))

  module _ (span : ℕ) where
    abbrev here : ℕ → Option Note
    here top = option_map (Note.Epoch (suc top)) (at_height r notes (suc top * span))

    -- what the search answers
    found : (top : ℕ) (note : Note) → reached_epoch r notes span top ≡ Some note
        → (epoch : ℕ) × (c : Commitment) × (note ≡ Note.Epoch epoch c) × (epoch_of notes < epoch)
        × (at_height r notes (epoch * span) ≡ Some c)
        × ((more : ℕ) → epoch < more → more ≤ top → at_height r notes (more * span) ≡ None)
    found zero note h = cc
    found (suc top) note h = go (cases_Bool (nat_le (suc top) (epoch_of notes))) (found top note)
      where
        Answer : Type 0
        Answer =
            (epoch : ℕ) × (c : Commitment) × (note ≡ Note.Epoch epoch c) × (epoch_of notes < epoch)
            × (at_height r notes (epoch * span) ≡ Some c)
            × ((more : ℕ) → epoch < more → more ≤ suc top → at_height r notes (more * span) ≡ None)

        Before : Type 0
        Before =
            (epoch : ℕ) × (c : Commitment) × (note ≡ Note.Epoch epoch c) × (epoch_of notes < epoch)
            × (at_height r notes (epoch * span) ≡ Some c)
            × ((more : ℕ) → epoch < more → more ≤ top → at_height r notes (more * span) ≡ None)

        by_more : at_height r notes (suc top * span) ≡ None → (epoch : ℕ)
            → ((more : ℕ) → epoch < more → more ≤ top → at_height r notes (more * span) ≡ None)
            → (more : ℕ) → epoch < more → more ≤ suc top → (more ≡ suc top) ⊎ (more ≡ suc top → ⊥)
            → at_height r notes (more * span) ≡ None
        by_more e epoch f more lt le (inl s) =
            subst (λ n. at_height r notes (n * span) ≡ None) (sym s) e
        by_more e epoch f more lt le (inr n) = f more lt (omega arith)

        by_at : epoch_of notes < suc top → (o : Option Commitment)
            → at_height r notes (suc top * span) ≡ o
            → option_or (option_map (Note.Epoch (suc top)) o) (reached_epoch r notes span top)
            ≡ Some note
            → (reached_epoch r notes span top ≡ Some note → Before) → Answer
        by_at above None e g later =
            let (epoch, c, is, over, at, none) = later g in (
              epoch,
              c,
              is,
              over,
              at,
              (λ more lt le. by_more e epoch none more lt le (cases_eq more (suc top))),
            )
        by_at above (Some c) e g later = (
          suc top,
          c,
          sym (same_Some (Note.Epoch (suc top) c) note g),
          above,
          e,
          (λ more lt le. absurd (omega arith)),
        )

        go : (nat_le (suc top) (epoch_of notes) ≡ true)
            ⊎ (nat_le (suc top) (epoch_of notes) ≡ false)
            → (reached_epoch r notes span top ≡ Some note → Before) → Answer
        go (inl t) later =
            cc
            (sym
            (cond-true (nat_le (suc top) (epoch_of notes)) None
            (option_or (here top) (reached_epoch r notes span top)) t)
            ∙ h)
        go (inr f) later =
            by_at (omega (arith, leb-false (suc top) (epoch_of notes) f))
            (at_height r notes (suc top * span)) refl
            (sym
            (cond-false (nat_le (suc top) (epoch_of notes)) None
            (option_or (here top) (reached_epoch r notes span top)) f)
            ∙ h)
            later

    not_found : (top : ℕ) → reached_epoch r notes span top ≡ None → (more : ℕ)
        → epoch_of notes < more → more ≤ top → at_height r notes (more * span) ≡ None
    not_found zero h more lt le = absurd (omega arith)
    not_found (suc top) h more lt le =
        go (cases_Bool (nat_le (suc top) (epoch_of notes))) (not_found top)
      where
        by_at : (o : Option Commitment) → at_height r notes (suc top * span) ≡ o
            → option_or (option_map (Note.Epoch (suc top)) o) (reached_epoch r notes span top)
            ≡ None
            → (reached_epoch r notes span top ≡ None → (more : ℕ) → epoch_of notes < more
            → more ≤ top → at_height r notes (more * span) ≡ None)
            → (more ≡ suc top) ⊎ (more ≡ suc top → ⊥) → at_height r notes (more * span) ≡ None
        by_at None e g later (inl s) = subst (λ n. at_height r notes (n * span) ≡ None) (sym s) e
        by_at None e g later (inr n) = later g more lt (omega arith)
        by_at (Some c) e g later s = cc

        go : (nat_le (suc top) (epoch_of notes) ≡ true)
            ⊎ (nat_le (suc top) (epoch_of notes) ≡ false)
            → (reached_epoch r notes span top ≡ None → (more : ℕ) → epoch_of notes < more
            → more ≤ top → at_height r notes (more * span) ≡ None)
            → at_height r notes (more * span) ≡ None
        go (inl t) later = absurd (omega (arith, leb-true (suc top) (epoch_of notes) t))
        go (inr f) later =
            by_at (at_height r notes (suc top * span)) refl
            (sym
            (cond-false (nat_le (suc top) (epoch_of notes)) None
            (option_or (here top) (reached_epoch r notes span top)) f)
            ∙ h)
            later (cases_eq more (suc top))

-- the epoch that is owed is the greatest that is reached
pub greatest_owed : (r : Rules) (s : State) (span : ℕ) → r.epochs.span ≡ Some span → 0 < span
    → (note : Note) → epoch_owed r s ≡ Some note → IsGreatest r s.notes span note
greatest_owed r s span e pos note h =
    let top = top_epoch r s.notes span in
    let g : reached_epoch r s.notes span top ≡ Some note =
    sym
    (ap (option_and_then (λ span. reached_epoch r s.notes span (top_epoch r s.notes span)))
    e)
    ∙ h in
    let (epoch, c, is, over, at, none) = found r s.notes span top note g in
    record {
      epoch = epoch;
      commitment = c;
      is = is;
      above = over;
      reaches = at;
      no_more = λ more lt. by_top epoch none more lt (cases_lt top more);
    }
  where
    by_top : (epoch : ℕ)
        → ((more : ℕ) → epoch < more → more ≤ top_epoch r s.notes span
        → at_height r s.notes (more * span) ≡ None)
        → (more : ℕ) → epoch < more
        → (top_epoch r s.notes span < more) ⊎ (more ≤ top_epoch r s.notes span)
        → at_height r s.notes (more * span) ≡ None
    by_top epoch none more lt (inl above) = top_none r s.notes span more pos above
    by_top epoch none more lt (inr le) = none more lt le

-- where none is owed, none is reached
pub none_owed : (r : Rules) (s : State) (span : ℕ) → r.epochs.span ≡ Some span → 0 < span
    → epoch_owed r s ≡ None → (epoch : ℕ) → epoch_of s.notes < epoch
    → at_height r s.notes (epoch * span) ≡ None
none_owed r s span e pos h epoch lt = go (cases_lt (top_epoch r s.notes span) epoch)
  where
    go : (top_epoch r s.notes span < epoch) ⊎ (epoch ≤ top_epoch r s.notes span)
        → at_height r s.notes (epoch * span) ≡ None
    go (inl above) = top_none r s.notes span epoch pos above
    go (inr le) =
        not_found r s.notes span (top_epoch r s.notes span)
        (sym
        (ap
        (option_and_then
        (λ span. reached_epoch r s.notes span (top_epoch r s.notes span)))
        e)
        ∙ h)
        epoch lt le
