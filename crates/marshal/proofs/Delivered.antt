-- What is handed out: each block is held and reached, the heights rise, and no more are pending
-- than may be.
use Rattle.std.proofs.Common.{◌≡◌, ◌⊎◌, inl, inr, ℕ, zero, suc, ◌+◌, ◌<◌, ◌≤◌, ◌==◌, ◌&&◌, Bool, true, false, cond, max, nat_lt, nat_le, List, [], ◌∷◌, length, map, filter, Option, Some, None, option_and_then, option_map, refl, sym, ◌∙◌, ap, subst, arith, append_assoc, append-nil, ltb-true, length-append}
use Rattle.std.specs.List.{filter_map, last_or, range_with_len}
use Rattle.std.specs.Option.{option_map_or}
use Rattle.std.proofs.lemmas.Bool.{and_from, cases_Bool, cond-false, cond-true, eqb-true, le-leb}
use Rattle.std.proofs.lemmas.List.Elements.{filter-append}
use Rattle.std.proofs.lemmas.Option.{none-some}
use Rattle.cw_types.specs.Block.{Block}
use Rattle.cw_types.specs.Epochs.{rises_from}
use Rattle.cw_types.specs.declared.commitment.Commitment.{Commitment}
use Rattle.cw_types.specs.declared.event.Handed.{Handed}
use Rattle.cw_types.specs.declared.note.Note.{Note}
use Rattle.cw_rules.specs.Accepted.{State, first_some}
use Rattle.cw_rules.specs.Held.{at_height, finalization_of, greatest_floor, held, last_ack, next, pending, resume}
use Rattle.cw_rules.specs.Reached.{In}
use Rattle.cw_rules.specs.Rules.{Rules, digest, genesis_commitment}
use Rattle.cw_rules.specs.Step.{deliveries, deliveries_within, delivery, handing, most_delivered, with_given, with_handed}
use Rattle.cw_rules.proofs.Lists.{and_then_some, map_some, rises_lower}
use Rattle.marshal.specs.Bare.{reached_by}
use Rattle.marshal.specs.Promises.{IsReached}
use Rattle.marshal.proofs.Growing.{first_in}
use Rattle.cw_rules.proofs.Deliveries.{next_given}
use Rattle.cw_rules.proofs.Heights.{at_is_at}

-- what is handed out is what stands at its height, and is held there
pub record IsHanded (r : Rules) (s : State) (h : Handed) : Type 0 where
  pub room : length (pending s) < r.backlog
  pub height : h.height ≡ next s
  pub at : at_height r s.notes h.height ≡ Some h.commitment
  pub block : Block
  pub is_held : held r s.notes h.commitment ≡ Some block
  pub named : h.digest ≡ digest r block

module _ (r : Rules) where
  pub handed : (s : State) (h : Handed) → delivery r s ≡ Some h → IsHanded r s h
  handed s h e = go (cases_Bool (nat_lt (length (pending s)) r.backlog))
    where
      out : Commitment → Option Handed
      out c = option_map (handing r (next s) c) (held r s.notes c)

      at : Option Handed
      at = option_and_then out (at_height r s.notes (next s))

      is : length (pending s) < r.backlog → (c : Commitment) (b : Block)
          → at_height r s.notes (next s) ≡ Some c → held r s.notes c ≡ Some b
          → handing r (next s) c b ≡ h → IsHanded r s h
      is room c b p q same =
          subst (IsHanded r s) same (record {
            room = room;
            height = refl;
            at = p;
            block = b;
            is_held = q;
            named = refl;
          })

      go : (nat_lt (length (pending s)) r.backlog ≡ true)
          ⊎ (nat_lt (length (pending s)) r.backlog ≡ false)
          → IsHanded r s h
      go (inr f) =
          absurd
          (none-some h (sym (cond-false (nat_lt (length (pending s)) r.backlog) at None f) ∙ e))
      go (inl t) =
          let (c, p, u) =
          and_then_some out (at_height r s.notes (next s)) h
          (sym (cond-true (nat_lt (length (pending s)) r.backlog) at None t) ∙ e) in
          let (b, q, same) = map_some (handing r (next s) c) (held r s.notes c) h u in
          is (ltb-true (length (pending s)) r.backlog t) c b p q same

  -- each of what is handed out is handed out at some moment
  at_a_moment : (steps : ℕ) (s : State) (h : Handed) → In h (deliveries_within r steps s)
      → (given : List ℕ) × (delivery r (record s { given = given }) ≡ Some h)
  at_a_moment zero s h inside = absurd inside
  at_a_moment (suc steps) s h inside =
      go (delivery r s) refl inside (λ k. at_a_moment steps (with_given s k) h)
    where
      go : (o : Option Handed) → delivery r s ≡ o
          → In h (option_map_or (λ x. x ∷ deliveries_within r steps (with_given s x.height)) o [])
          → ((k : ℕ) → In h (deliveries_within r steps (with_given s k))
          → (given : List ℕ) × (delivery r (record s { given = given }) ≡ Some h))
          → (given : List ℕ) × (delivery r (record s { given = given }) ≡ Some h)
      go None is i later = absurd i
      go (Some x) is (inl same) later = (s.given, is ∙ ap Some (sym same))
      go (Some x) is (inr i) later = later x.height i

  -- what stands at a height above 0 is reached
  pub at_reached : (notes : List Note) (height : ℕ) (c : Commitment) → 0 < height
      → at_height r notes height ≡ Some c → IsReached r notes height c
  at_reached notes height c above e = go (cases_Bool (height == 0))
    where
      first : Option Commitment
      first = first_some (reached_by r notes height) (filter_map finalization_of notes)

      go : ((height == 0) ≡ true) ⊎ ((height == 0) ≡ false) → IsReached r notes height c
      go (inl t) = let none = eqb-true height 0 t in absurd (omega arith)
      go (inr f) =
          first_in (reached_by r notes height) (filter_map finalization_of notes) c
          (sym (cond-false (height == 0) (Some (genesis_commitment r)) first f) ∙ e)

  pub delivered_reached : (s : State) (h : Handed) → In h (deliveries r s) → 0 < h.height
      → IsReached r s.notes h.height h.commitment
  delivered_reached s h inside above =
      let (given, e) = at_a_moment (most_delivered r s) s h inside in
      at_reached s.notes h.height h.commitment above (handed (record s { given = given }) h e).at

  pub delivered_held : (s : State) (h : Handed) → In h (deliveries r s)
      → (b : Block) × (held r s.notes h.commitment ≡ Some b) × (b.height ≡ h.height)
      × (h.digest ≡ digest r b)
  delivered_held s h inside =
      let (given, e) = at_a_moment (most_delivered r s) s h inside in
      let is = handed (record s { given = given }) h e in (
        is.block,
        is.is_held,
        at_is_at r s.notes h.height h.commitment is.at is.block is.is_held,
        is.named,
      )

  -- ---- heights rise

  within_rises : (steps : ℕ) (s : State)
      → rises_from (next s) (map (λ h. h.height) (deliveries_within r steps s)) ≡ true
  within_rises zero s = refl
  within_rises (suc steps) s = go (delivery r s) refl (λ k. within_rises steps (with_given s k))
    where
      go : (o : Option Handed) → delivery r s ≡ o
          → ((k : ℕ)
          → rises_from (next (with_given s k))
          (map (λ h. h.height) (deliveries_within r steps (with_given s k)))
          ≡ true)
          → rises_from (next s)
          (map (λ h. h.height)
          (option_map_or (λ x. x ∷ deliveries_within r steps (with_given s x.height)) o []))
          ≡ true
      go None is later = refl
      go (Some x) is later =
          let here = (handed s x is).height in
          and_from (nat_le (next s) x.height)
          (rises_from (x.height + 1)
          (map (λ h. h.height) (deliveries_within r steps (with_given s x.height))))
          (le-leb (next s) x.height (omega (arith, here)))
          (rises_lower (x.height + 1) (next (with_given s x.height))
          (map (λ h. h.height) (deliveries_within r steps (with_given s x.height)))
          (omega (arith, next_given r s x.height)) (later x.height))

  pub delivered_rises : (s : State)
      → rises_from (next s) (map (λ h. h.height) (deliveries r s)) ≡ true
  delivered_rises s = within_rises (most_delivered r s) s

  -- ---- and go up by one

  one_higher : (s : State) (h : ℕ) → h ≡ next s → next (with_given s h) ≡ h + 1
  one_higher s h here = omega (arith, here, next_given r s h)

  within_go_up : (steps : ℕ) (s : State)
      → map (λ h. h.height) (deliveries_within r steps s)
      ≡ range_with_len (next s) (length (deliveries_within r steps s))
  within_go_up zero s = refl
  within_go_up (suc steps) s = go (delivery r s) refl (λ k. within_go_up steps (with_given s k))
    where
      go : (o : Option Handed) → delivery r s ≡ o
          → ((k : ℕ) → map (λ h. h.height) (deliveries_within r steps (with_given s k))
          ≡ range_with_len (next (with_given s k))
          (length (deliveries_within r steps (with_given s k))))
          → map (λ h. h.height)
          (option_map_or (λ x. x ∷ deliveries_within r steps (with_given s x.height)) o [])
          ≡ range_with_len (next s)
          (length
          (option_map_or (λ x. x ∷ deliveries_within r steps (with_given s x.height)) o []))
      go None is later = refl
      go (Some x) is later =
          let here = (handed s x is).height in
          let more = deliveries_within r steps (with_given s x.height) in
          ap (λ hs. x.height ∷ hs)
          (later x.height ∙ ap (λ n. range_with_len n (length more)) (one_higher s x.height here))
          ∙ ap (λ n. range_with_len n (suc (length more))) here

  pub delivered_go_up : (s : State)
      → map (λ h. h.height) (deliveries r s)
      ≡ range_with_len (next s) (length (deliveries r s))
  delivered_go_up s = within_go_up (most_delivered r s) s

  -- what was acknowledged isn't handed out by the next start
  pub resumes_above : (s : State) (a : ℕ) → s.given ≡ [] → last_ack s.notes ≡ Some a
      → rises_from (a + 1) (map (λ h. h.height) (deliveries r s)) ≡ true
  resumes_above s a none acked =
      rises_lower (a + 1) (next s) (map (λ h. h.height) (deliveries r s)) above (delivered_rises s)
    where
      resumed : next s ≡ max (max (a + 1) (greatest_floor s.notes)) (greatest_floor s.notes)
      resumed =
          ap
          (λ (g : List ℕ). max (option_map_or (λ h. h + 1) (last_or None g) (resume s.notes))
          (greatest_floor s.notes))
          none
          ∙ ap
          (λ (o : Option ℕ). max (max (option_map_or (λ h. h + 1) o 0) (greatest_floor s.notes))
          (greatest_floor s.notes))
          acked

      above : a + 1 ≤ next s
      above = omega (arith, resumed)

  -- nor is what was handed out before
  pub goes_above : (s : State) (g : ℕ) → last_or None s.given ≡ Some g
      → rises_from (g + 1) (map (λ h. h.height) (deliveries r s)) ≡ true
  goes_above s g last =
      rises_lower (g + 1) (next s) (map (λ h. h.height) (deliveries r s)) above (delivered_rises s)
    where
      gone_on : next s ≡ max (g + 1) (greatest_floor s.notes)
      gone_on =
          ap
          (λ (o : Option ℕ). max (option_map_or (λ h. h + 1) o (resume s.notes))
          (greatest_floor s.notes))
          last

      above : g + 1 ≤ next s
      above = omega (arith, gone_on)

  -- ---- no more are pending than may be

  -- the test of a height that is pending
  abbrev is_pending : State → ℕ → Bool
  is_pending s h =
      option_map_or (λ a. nat_lt a h) (last_ack s.notes) true && nat_le (greatest_floor s.notes) h

  one_at_most : (s : State) (h : ℕ) → length (pending (with_given s h)) ≤ length (pending s) + 1
  one_at_most s h = go (cases_Bool (is_pending s h))
    where
      counted : (b : Bool) → is_pending s h ≡ b
          → length (pending (with_given s h)) ≡ length (pending s) + length (cond b (h ∷ []) [])
      counted b e =
          ap length (filter-append (is_pending s) s.given (h ∷ []))
          ∙ (length-append (filter (is_pending s) s.given) (filter (is_pending s) (h ∷ []))
          ∙ ap (λ t. length (pending s) + length (cond t (h ∷ []) [])) e)

      go : (is_pending s h ≡ true) ⊎ (is_pending s h ≡ false)
          → length (pending (with_given s h)) ≤ length (pending s) + 1
      go (inl t) = omega (arith, counted true t)
      go (inr f) = omega (arith, counted false f)

  within_backlog : (steps : ℕ) (s : State) → length (pending s) ≤ r.backlog
      → length (pending (with_handed s (deliveries_within r steps s))) ≤ r.backlog
  within_backlog zero s few =
      subst (λ (g : List ℕ). length (pending (record s { given = g })) ≤ r.backlog)
      (sym (append-nil s.given)) few
  within_backlog (suc steps) s few =
      go (delivery r s) refl (λ k. within_backlog steps (with_given s k))
    where
      go : (o : Option Handed) → delivery r s ≡ o
          → ((k : ℕ) → length (pending (with_given s k)) ≤ r.backlog
          → length
          (pending
          (with_handed (with_given s k) (deliveries_within r steps (with_given s k))))
          ≤ r.backlog)
          → length
          (pending
          (with_handed s
          (option_map_or (λ x. x ∷ deliveries_within r steps (with_given s x.height)) o
          [])))
          ≤ r.backlog
      go None is later =
          subst (λ (g : List ℕ). length (pending (record s { given = g })) ≤ r.backlog)
          (sym (append-nil s.given)) few
      go (Some x) is later =
          let room = (handed s x is).room in
          let more = one_at_most s x.height in
          subst (λ (g : List ℕ). length (pending (record s { given = g })) ≤ r.backlog)
          (append_assoc s.given (x.height ∷ [])
          (map (λ (h : Handed). h.height) (deliveries_within r steps (with_given s x.height))))
          (later x.height (omega arith))

  pub delivered_within : (s : State) → length (pending s) ≤ r.backlog
      → length (pending (with_handed s (deliveries r s))) ≤ r.backlog
  delivered_within s few = within_backlog (most_delivered r s) s few
