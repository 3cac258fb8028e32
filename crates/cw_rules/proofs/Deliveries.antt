-- A step hands out as many blocks as may be.
use Rattle.std.proofs.Common.{◌≡◌, ℕ, zero, suc, ◌+◌, ◌<◌, ◌≤◌, Bool, true, false, ◌&&◌, ◌==◌, cond, max, nat_lt, nat_le, List, [], ◌∷◌, ◌++◌, length, map, Option, Some, None, filter, filter_map, option_map, option_and_then, refl, sym, ◌∙◌, ap, subst, inl, inr, ◌⊎◌, arith, append_assoc, append-nil, ltb-true, length-append}
use Rattle.std.specs.List.{last_or}
use Rattle.std.specs.Option.{option_map_or}
use Rattle.std.proofs.lemmas.Bool.{and_from, cases_Bool, cond-true, cond-false, lt-ltb, ltb-false, le-leb}
use Rattle.std.proofs.lemmas.List.Elements.{filter-append}
use Rattle.std.proofs.lemmas.Option.{same_Some}
use Rattle.cw_types.specs.declared.commitment.Commitment.{Commitment}
use Rattle.cw_types.specs.declared.event.Handed.{Handed}
use Rattle.cw_types.specs.declared.note.Note.{Note}
use Rattle.cw_types.specs.declared.vote.Proposal.{Proposal}
use Rattle.cw_types.specs.Block.{Block}
use Rattle.cw_types.specs.Same.{same_commitment}
use Rattle.cw_rules.specs.Accepted.{State, first_some}
use Rattle.cw_rules.specs.Held.{at_height, finalization_of, greatest_floor, held, last_ack, next, parent_of, pending, reached, resume}
use Rattle.cw_rules.specs.Rules.{Rules, genesis, genesis_commitment}
use Rattle.cw_rules.specs.Step.{above_ack, deliveries, deliveries_within, delivery, handing, left_to_hand, most_delivered, with_given, with_handed}
use Rattle.cw_types.proofs.Same.{same_commitment_self}
use Rattle.cw_rules.proofs.Lists.{all_true, and_then_some, first_some_at}

module _ (r : Rules) where
  -- ---- what stands at a height is held

  abbrev pub IsHeld : List Note → Commitment → Type 0
  IsHeld notes c = (b : Block) × (held r notes c ≡ Some b)

  reached_held : (notes : List Note) (steps h : ℕ) (c d : Commitment) (b : Block)
      → held r notes c ≡ Some b → reached r notes steps h c b ≡ Some d → IsHeld notes d
  reached_held notes zero h c d b k e = go (cases_Bool (b.height == h))
    where
      go : ((b.height == h) ≡ true) ⊎ ((b.height == h) ≡ false) → IsHeld notes d
      go (inl t) =
          let s : c ≡ d = same_Some c d (sym (cond-true (b.height == h) (Some c) None t) ∙ e) in
          subst (IsHeld notes) s (b, k)
      go (inr f) = cc (cond-false (b.height == h) (Some c) None f)
  reached_held notes (suc steps) h c d b k e =
      go (cases_Bool (b.height == h)) (λ a. reached_held notes steps h b.context.parent d a)
    where
      more : Option Commitment
      more = option_and_then (reached r notes steps h b.context.parent) (parent_of r notes b)

      up : Block → Option Block
      up a = cond (a.height + 1 == b.height) (Some a) None

      same : (a y : Block)
          → ((a.height + 1 == b.height) ≡ true) ⊎ ((a.height + 1 == b.height) ≡ false)
          → up a ≡ Some y → a ≡ y
      same a y (inl t) g =
          same_Some a y (sym (cond-true (a.height + 1 == b.height) (Some a) None t) ∙ g)
      same a y (inr f) g = cc (cond-false (a.height + 1 == b.height) (Some a) None f)

      go : ((b.height == h) ≡ true) ⊎ ((b.height == h) ≡ false)
          → ((a : Block) → held r notes b.context.parent ≡ Some a
          → reached r notes steps h b.context.parent a ≡ Some d → IsHeld notes d)
          → IsHeld notes d
      go (inl t) later =
          let s : c ≡ d = same_Some c d (sym (cond-true (b.height == h) (Some c) more t) ∙ e) in
          subst (IsHeld notes) s (b, k)
      go (inr f) later =
          let (y, p, g) =
          and_then_some (reached r notes steps h b.context.parent) (parent_of r notes b) d
          (sym (cond-false (b.height == h) (Some c) more f) ∙ e) in
          let (a, q, u) = and_then_some up (held r notes b.context.parent) y p in
          later y (q ∙ ap Some (same a y (cases_Bool (a.height + 1 == b.height)) u)) g

  pub holds_genesis : (notes : List Note) → held r notes (genesis_commitment r) ≡ Some (genesis r)
  holds_genesis notes =
      cond-true (same_commitment (genesis_commitment r) (genesis_commitment r)) (Some (genesis r)) _
      (same_commitment_self (genesis_commitment r))

  genesis_held : (notes : List Note) → IsHeld notes (genesis_commitment r)
  genesis_held notes = (genesis r, holds_genesis notes)

  pub at_held : (notes : List Note) (h : ℕ) (c : Commitment) → at_height r notes h ≡ Some c
      → IsHeld notes c
  at_held notes h c e = go (cases_Bool (h == 0))
    where
      from : Proposal → Option Commitment
      from p =
          option_and_then (λ b. reached r notes b.height h p.payload b) (held r notes p.payload)

      each : (p : Proposal) (d : Commitment) → Unit {0} → from p ≡ Some d → IsHeld notes d
      each p d u f =
          let (b, k, g) =
          and_then_some (λ b. reached r notes b.height h p.payload b) (held r notes p.payload) d
          f in
          reached_held notes b.height h p.payload d b k g

      go : ((h == 0) ≡ true) ⊎ ((h == 0) ≡ false) → IsHeld notes c
      go (inl t) =
          let s : genesis_commitment r ≡ c =
          same_Some (genesis_commitment r) c
          (sym
          (cond-true (h == 0) (Some (genesis_commitment r))
          (first_some from (filter_map finalization_of notes)) t)
          ∙ e) in
          subst (IsHeld notes) s (genesis_held notes)
      go (inr f) =
          first_some_at from (λ _. Unit {0}) (IsHeld notes) (filter_map finalization_of notes)
          (all_true (filter_map finalization_of notes)) each c
          (sym
          (cond-false (h == 0) (Some (genesis_commitment r))
          (first_some from (filter_map finalization_of notes)) f)
          ∙ e)

  -- ---- what a hand-out changes

  pub last_added : (o : Option ℕ) (xs : List ℕ) (x : ℕ) → last_or o (xs ++ x ∷ []) ≡ Some x
  last_added o [] x = refl
  last_added o (y ∷ ys) x = last_added (Some y) ys x

  pub next_given : (s : State) (h : ℕ)
      → next (with_given s h) ≡ max (h + 1) (greatest_floor s.notes)
  next_given s h =
      ap (λ o. max (option_map_or (λ x. x + 1) o (resume s.notes)) (greatest_floor s.notes))
      (last_added None s.given h)

  abbrev is_pending : State → ℕ → Bool
  is_pending s h =
      option_map_or (λ a. nat_lt a h) (last_ack s.notes) true && nat_le (greatest_floor s.notes) h

  above_passes : (o : Option ℕ) (h : ℕ) → option_map_or (λ a. a + 1) o 0 ≤ h
      → option_map_or (λ a. nat_lt a h) o true ≡ true
  above_passes None h le = refl
  above_passes (Some a) h le = lt-ltb a h (omega arith)

  counted : (s : State) (h : ℕ) (b : Bool) → is_pending s h ≡ b
      → length (pending (with_given s h)) ≡ length (pending s) + length (cond b (h ∷ []) [])
  counted s h b e =
      ap length (filter-append (is_pending s) s.given (h ∷ []))
      ∙ (length-append (filter (is_pending s) s.given) (filter (is_pending s) (h ∷ []))
      ∙ ap (λ t. length (pending s) + length (cond t (h ∷ []) [])) e)

  pub no_fewer : (s : State) (h : ℕ) → length (pending s) ≤ length (pending (with_given s h))
  no_fewer s h = omega (arith, counted s h (is_pending s h) refl)

  pub one_more : (s : State) (h : ℕ) → above_ack s ≤ h → greatest_floor s.notes ≤ h
      → length (pending (with_given s h)) ≡ length (pending s) + 1
  one_more s h up high =
      counted s h true
      (and_from _ (nat_le (greatest_floor s.notes) h) (above_passes (last_ack s.notes) h up)
      (le-leb (greatest_floor s.notes) h high))

  -- ---- the bound

  -- what a delivery is
  pub delivery_is : (s : State) (h : Handed) → delivery r s ≡ Some h
      → (length (pending s) < r.backlog) × (h.height ≡ next s)
  delivery_is s h e = go (cases_Bool (nat_lt (length (pending s)) r.backlog))
    where
      at : Option Handed
      at =
          option_and_then (λ c. option_map (handing r (next s) c) (held r s.notes c))
          (at_height r s.notes (next s))

      height_at : (o : Option Commitment)
          → option_and_then (λ c. option_map (handing r (next s) c) (held r s.notes c)) o ≡ Some h
          → h.height ≡ next s
      height_at None f = cc
      height_at (Some c) f = by_block (held r s.notes c) f
        where
          by_block : (o : Option Block) → option_map (handing r (next s) c) o ≡ Some h
              → h.height ≡ next s
          by_block None f = cc
          by_block (Some b) f =
              ap (λ (x : Handed). x.height) (sym (same_Some (handing r (next s) c b) h f))

      go : (nat_lt (length (pending s)) r.backlog ≡ true)
          ⊎ (nat_lt (length (pending s)) r.backlog ≡ false)
          → (length (pending s) < r.backlog) × (h.height ≡ next s)
      go (inl t) = (
        ltb-true (length (pending s)) r.backlog t,
        height_at (at_height r s.notes (next s))
            (sym (cond-true (nat_lt (length (pending s)) r.backlog) at None t) ∙ e),
      )
      go (inr f) = cc (cond-false (nat_lt (length (pending s)) r.backlog) at None f)

  full_none : (s : State) → r.backlog ≤ length (pending s) → delivery r s ≡ None
  full_none s le =
      cond-false (nat_lt (length (pending s)) r.backlog) _ None
      (le-ltb (length (pending s)) r.backlog le)
    where
      le-ltb : (a b : ℕ) → b ≤ a → nat_lt a b ≡ false
      le-ltb a b le = go (cases_Bool (nat_lt a b))
        where
          go : (nat_lt a b ≡ true) ⊎ (nat_lt a b ≡ false) → nat_lt a b ≡ false
          go (inl t) = absurd (omega (arith, ltb-true a b t))
          go (inr f) = f

  -- with each delivery less is left to hand out
  pub falls : (s : State) (h : Handed) → delivery r s ≡ Some h
      → left_to_hand r (with_given s h.height) < left_to_hand r s
  falls s h e = go (cases_Bool (nat_lt h.height (above_ack s)))
    where
      is : (length (pending s) < r.backlog) × (h.height ≡ next s)
      is = delivery_is s h e

      high : greatest_floor s.notes ≤ h.height
      high = omega (arith, is.1)

      go : (nat_lt h.height (above_ack s) ≡ true) ⊎ (nat_lt h.height (above_ack s) ≡ false)
          → left_to_hand r (with_given s h.height) < left_to_hand r s
      go (inl t) =
          omega (
            arith,
            is.0,
            is.1,
            ltb-true h.height (above_ack s) t,
            next_given s h.height,
            no_fewer s h.height,
          )
      go (inr f) =
          omega (
            arith,
            is.0,
            is.1,
            ltb-false h.height (above_ack s) f,
            next_given s h.height,
            one_more s h.height (ltb-false h.height (above_ack s) f) high,
          )

  -- nothing more is handed out
  pub ended : (steps : ℕ) (s : State) → left_to_hand r s ≤ steps
      → delivery r (with_handed s (deliveries_within r steps s)) ≡ None
  ended zero s le = same_given s (full_none s (omega arith))
    where
      same_given : (s : State) → delivery r s ≡ None → delivery r (with_handed s []) ≡ None
      same_given s e =
          subst (λ xs. delivery r (record { notes = s.notes; came = s.came; given = xs }) ≡ None)
          (sym (append-nil s.given)) e
  ended (suc steps) s le = go (delivery r s) refl (λ h. ended steps (with_given s h))
    where
      go : (o : Option Handed) → delivery r s ≡ o
          → ((h : ℕ) → left_to_hand r (with_given s h) ≤ steps
          → delivery r
          (with_handed (with_given s h) (deliveries_within r steps (with_given s h)))
          ≡ None)
          → delivery r
          (with_handed s
          (option_map_or (λ h. h ∷ deliveries_within r steps (with_given s h.height)) o []))
          ≡ None
      go None e later =
          subst (λ xs. delivery r (record { notes = s.notes; came = s.came; given = xs }) ≡ None)
          (sym (append-nil s.given)) e
      go (Some h) e later =
          subst (λ xs. delivery r (record { notes = s.notes; came = s.came; given = xs }) ≡ None)
          (append_assoc s.given (h.height ∷ [])
          (map (λ (x : Handed). x.height)
          (deliveries_within r steps (with_given s h.height))))
          (later h.height (omega (arith, falls s h e)))

  -- as many as may be are pending, or the next height isn't reached
  pub all_delivered : (s : State)
      → (r.backlog ≤ length (pending (with_handed s (deliveries r s))))
      ⊎ (at_height r s.notes (next (with_handed s (deliveries r s))) ≡ None)
  all_delivered s =
      go (with_handed s (deliveries r s)) refl (ended (most_delivered r s) s (omega arith))
    where
      none_at : (t : State) → (o : Option Commitment) → at_height r t.notes (next t) ≡ o
          → option_and_then (λ c. option_map (handing r (next t) c) (held r t.notes c)) o ≡ None
          → o ≡ None
      none_at t None e f = refl
      none_at t (Some c) e f =
          let (b, k) = at_held t.notes (next t) c e in
          cc (ap (λ o. option_map (handing r (next t) c) o) k)

      go : (t : State) → t.notes ≡ s.notes → delivery r t ≡ None
          → (r.backlog ≤ length (pending t)) ⊎ (at_height r s.notes (next t) ≡ None)
      go t n e = by_room (cases_Bool (nat_lt (length (pending t)) r.backlog))
        where
          at : Option Handed
          at =
              option_and_then (λ c. option_map (handing r (next t) c) (held r t.notes c))
              (at_height r t.notes (next t))

          by_room : (nat_lt (length (pending t)) r.backlog ≡ true)
              ⊎ (nat_lt (length (pending t)) r.backlog ≡ false)
              → (r.backlog ≤ length (pending t)) ⊎ (at_height r s.notes (next t) ≡ None)
          by_room (inl y) =
              inr
              (subst (λ ns. at_height r ns (next t) ≡ None) n
              (none_at t (at_height r t.notes (next t)) refl
              (sym (cond-true (nat_lt (length (pending t)) r.backlog) at None y) ∙ e)))
          by_room (inr f) = inl (ltb-false (length (pending t)) r.backlog f)
