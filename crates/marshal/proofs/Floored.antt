-- A floor hands out its own block next, and nothing below it.
use Rattle.std.proofs.Common.{◌≡◌, ◌⊎◌, inl, inr, ℕ, ◌+◌, ◌<◌, ◌≤◌, ◌==◌, ◌&&◌, true, false, max, nat_lt, nat_le, List, [], ◌∷◌, ◌++◌, map, Option, Some, None, option_and_then, refl, sym, ◌∙◌, ap, subst, arith, ltb-true, leb-true, eq-eqb, append-nil}
use Rattle.std.specs.List.{filter_map, last_or, list_all}
use Rattle.std.specs.Option.{option_map_or, option_or}
use Rattle.std.proofs.lemmas.Bool.{and_parts, cases_Bool, cond-false, eqb-true}
use Rattle.cw_types.specs.Block.{Block}
use Rattle.cw_types.specs.Epochs.{rises_from}
use Rattle.cw_types.specs.declared.commitment.Commitment.{Commitment}
use Rattle.cw_types.specs.declared.note.Note.{Note}
use Rattle.cw_types.specs.declared.vote.Proposal.{Proposal}
use Rattle.cw_rules.specs.Accepted.{State, first_some}
use Rattle.cw_rules.specs.Held.{acked_height, at_height, finalization_of, floor_height, greatest_floor, held, last_ack, next, reached}
use Rattle.cw_rules.specs.Notes.{greatest}
use Rattle.cw_rules.specs.Owed.{floor_owed, when}
use Rattle.cw_rules.specs.Reached.{In}
use Rattle.cw_rules.specs.Rules.{Rules, genesis_commitment}
use Rattle.cw_rules.specs.Step.{deliveries, with_notes}
use Rattle.cw_rules.proofs.Lists.{and_then_some, in_left, rises_lower, when_some}
use Rattle.marshal.specs.Bare.{reached_by}
use Rattle.marshal.specs.Promises.{AgreeAt}
use Rattle.marshal.proofs.Delivered.{delivered_rises}
use Rattle.marshal.proofs.Growing.{filter_map_both, first_in, reaches_itself}
use Rattle.marshal.proofs.NoneOwed.{same_held}

-- a greater number behind the others is the greatest
greatest_last : (h : ℕ) (xs : List ℕ) → list_all (λ x. nat_lt x h) xs ≡ true
    → greatest (xs ++ h ∷ []) ≡ h
greatest_last h [] e = omega arith
greatest_last h (x ∷ xs) e =
    let parts = and_parts (nat_lt x h) (list_all (λ y. nat_lt y h) xs) e in
    omega (arith, ltb-true x h parts.0, greatest_last h xs parts.1)

-- a search that has something to find finds
finds : {X Y : Type 0} (f : X → Option Y) (x : X) (y : Y) (xs : List X) → In x xs → f x ≡ Some y
    → (z : Y) × (first_some f xs ≡ Some z)
finds f x y [] i e = absurd i
finds {X} {Y} f x y (w ∷ ws) i e = go (f w) refl i (finds f x y ws)
  where
    go : (o : Option Y) → f w ≡ o → In x (w ∷ ws)
        → (In x ws → f x ≡ Some y → (z : Y) × (first_some f ws ≡ Some z))
        → (z : Y) × (option_or o (first_some f ws) ≡ Some z)
    go (Some v) is j later = (v, refl)
    go None is (inl same) later =
        absurd (let bad : ◌≡◌ {A = Option Y} None (Some y) = sym is ∙ sym (ap f same) ∙ e in cc)
    go None is (inr j) later = later j e

module _ (r : Rules) (s : State) where
  -- a floor that is owed is the height of the wished block, which is next or above, and above all
  -- floors
  pub record IsOwed (c : Commitment) (h : ℕ) : Type 0 where
    pub block : Block
    pub is_held : held r s.notes c ≡ Some block
    pub height : block.height ≡ h
    pub high : next s ≤ h
    pub above : list_all (λ x. nat_lt x h) (filter_map floor_height s.notes) ≡ true

  abbrev height_of : Note → ℕ
  height_of (Note.Floor h) = h
  height_of _ = 0

  pub owed_is : (c : Commitment) (h : ℕ) → floor_owed r s c ≡ Some (Note.Floor h) → IsOwed c h
  owed_is c h e =
      let (b, k, u) =
      and_then_some
      (λ (b : Block). when
      (nat_le (next s) b.height
      && list_all (λ x. nat_lt x b.height) (filter_map floor_height s.notes))
      (Note.Floor b.height))
      (held r s.notes c) (Note.Floor h) e in
      let parts =
      when_some
      (nat_le (next s) b.height
      && list_all (λ x. nat_lt x b.height) (filter_map floor_height s.notes))
      (Note.Floor b.height) (Note.Floor h) u in
      let both =
      and_parts (nat_le (next s) b.height)
      (list_all (λ x. nat_lt x b.height) (filter_map floor_height s.notes)) parts.0 in
      let same : b.height ≡ h = ap height_of parts.1 in
      record {
        block = b;
        is_held = k;
        height = same;
        high = subst (λ n. next s ≤ n) same (leb-true (next s) b.height both.0);
        above =
            subst (λ n. list_all (λ x. nat_lt x n) (filter_map floor_height s.notes) ≡ true) same
            both.1;
      }

  -- then it is the next height
  pub floor_next : (c : Commitment) (h : ℕ) → floor_owed r s c ≡ Some (Note.Floor h)
      → next (with_notes s (Note.Floor h ∷ [])) ≡ h
  floor_next c h e =
      let is = owed_is c h e in
      rw (floors is.above, acks)
      (go (last_or None s.given) (option_map_or (λ x. x + 1) (last_ack s.notes) 0) is.high)
    where
      floors : list_all (λ x. nat_lt x h) (filter_map floor_height s.notes) ≡ true
          → greatest (filter_map floor_height (s.notes ++ Note.Floor h ∷ [])) ≡ h
      floors above =
          ap greatest (filter_map_both floor_height s.notes (Note.Floor h ∷ []))
          ∙ greatest_last h (filter_map floor_height s.notes) above

      acks : filter_map acked_height (s.notes ++ Note.Floor h ∷ [])
          ≡ filter_map acked_height s.notes
      acks =
          filter_map_both acked_height s.notes (Note.Floor h ∷ [])
          ∙ append-nil (filter_map acked_height s.notes)

      go : (o : Option ℕ) (a : ℕ)
          → max (option_map_or (λ x. x + 1) o (max a (greatest_floor s.notes)))
          (greatest_floor s.notes)
          ≤ h
          → max (option_map_or (λ x. x + 1) o (max a h)) h ≡ h
      go None a le = omega (arith, le)
      go (Some g) a le = omega (arith, le)

  -- and its own block stands there
  pub floor_at : (c : Commitment) (h : ℕ) (p : Proposal) → floor_owed r s c ≡ Some (Note.Floor h)
      → 0 < h → In p (filter_map finalization_of s.notes) → p.payload ≡ c
      → AgreeAt r (s.notes ++ Note.Floor h ∷ []) h
      → at_height r (s.notes ++ Note.Floor h ∷ []) h ≡ Some c
  floor_at c h p e above inside named agree = go (cases_Bool (h == 0))
    where
      all : List Note
      all = s.notes ++ Note.Floor h ∷ []

      is : IsOwed c h
      is = owed_is c h e

      within : In p (filter_map finalization_of all)
      within =
          subst (In p) (sym (filter_map_both finalization_of s.notes (Note.Floor h ∷ [])))
          (in_left p (filter_map finalization_of s.notes) [] inside)

      stays : held r all p.payload ≡ Some is.block
      stays =
          ap (held r all) named ∙ same_held r s (Note.Floor h ∷ []) ((h, refl), tt) c ∙ is.is_held

      here : reached_by r all h p ≡ Some p.payload
      here =
          ap (option_and_then (λ (b : Block). reached r all b.height h p.payload b)) stays
          ∙ reaches_itself r all is.block.height h p.payload is.block
          (eq-eqb is.block.height h is.height)

      first : Option Commitment
      first = first_some (reached_by r all h) (filter_map finalization_of all)

      found : first ≡ Some c
      found =
          let (d, f) =
          finds (reached_by r all h) p p.payload (filter_map finalization_of all) within here in
          let (q, inside_q, reaches) =
          first_in (reached_by r all h) (filter_map finalization_of all) d f in
          f ∙ ap Some (agree q p d p.payload inside_q within reaches here ∙ named)

      go : ((h == 0) ≡ true) ⊎ ((h == 0) ≡ false) → at_height r all h ≡ Some c
      go (inl t) = let none = eqb-true h 0 t in absurd (omega arith)
      go (inr f) = cond-false (h == 0) (Some (genesis_commitment r)) first f ∙ found

  -- nothing below the greatest floor is handed out
  pub none_below : rises_from (greatest_floor s.notes) (map (λ h. h.height) (deliveries r s)) ≡ true
  none_below =
      rises_lower (greatest_floor s.notes) (next s) (map (λ h. h.height) (deliveries r s))
      (omega arith) (delivered_rises r s)
