-- What the writing calls leave pending: no more than was.
use Rattle.std.proofs.Common.{◌≡◌, ◌⊎◌, inl, inr, ℕ, ◌≤◌, ◌&&◌, Bool, true, false, min, nat_lt, nat_le, List, [], ◌∷◌, ◌++◌, length, filter, Option, Some, None, refl, sym, ◌∙◌, ap, subst, arith, ltb-true, leb-true, append-nil, append_assoc}
use Rattle.std.specs.Bool.{⊤}
use Rattle.std.specs.List.{AllByRecursion, filter_map, last_or}
use Rattle.std.specs.Option.{option_map_or}
use Rattle.std.proofs.lemmas.Bool.{and_from, and_parts, cases_Bool, cond-false, cond-true, le-leb, lt-ltb}
use Rattle.cw_types.specs.declared.note.Note.{Note}
use Rattle.cw_rules.specs.Accepted.{State}
use Rattle.cw_rules.specs.Direct.{least}
use Rattle.cw_rules.specs.Held.{acked_height, floor_height, greatest_floor, last_ack, pending}
use Rattle.cw_rules.specs.Notes.{greatest}
use Rattle.cw_rules.specs.Rules.{Rules}
use Rattle.cw_rules.specs.Step.{with_notes}
use Rattle.marshal.specs.Writing.{ack_notes, floors, with_floors}
use Rattle.marshal.proofs.Growing.{filter_map_both}
use Rattle.marshal.proofs.NoneOwed.{all_floors, greater_front, no_acks}

-- fewer pass a stronger test
fewer : (p q : ℕ → Bool) → ((h : ℕ) → q h ≡ true → p h ≡ true) → (xs : List ℕ)
    → length (filter q xs) ≤ length (filter p xs)
fewer p q weaker [] = omega arith
fewer p q weaker (x ∷ xs) = go (cases_Bool (q x)) (cases_Bool (p x)) (fewer p q weaker xs)
  where
    go : (q x ≡ true) ⊎ (q x ≡ false) → (p x ≡ true) ⊎ (p x ≡ false)
        → length (filter q xs) ≤ length (filter p xs)
        → length (filter q (x ∷ xs)) ≤ length (filter p (x ∷ xs))
    go (inl t) (inl u) more = rw (t, u) (omega (arith, more))
    go (inl t) (inr n) more =
        absurd (let bad : ◌≡◌ {A = Bool} true false = sym (weaker x t) ∙ n in cc)
    go (inr f) (inl u) more = rw (f, u) (omega (arith, more))
    go (inr f) (inr n) more = rw (f, n) more

all_pass : (p : ℕ → Bool) (xs : List ℕ) → AllByRecursion (λ h. p h ≡ true) (filter p xs)
all_pass p [] = tt
all_pass p (x ∷ xs) = go (cases_Bool (p x)) (all_pass p xs)
  where
    go : (p x ≡ true) ⊎ (p x ≡ false) → AllByRecursion (λ h. p h ≡ true) (filter p xs)
        → AllByRecursion (λ h. p h ≡ true) (filter p (x ∷ xs))
    go (inl t) more =
        subst (AllByRecursion (λ h. p h ≡ true))
        (sym (cond-true (p x) (x ∷ filter p xs) (filter p xs) t)) (t, more)
    go (inr f) more =
        subst (AllByRecursion (λ h. p h ≡ true))
        (sym (cond-false (p x) (x ∷ filter p xs) (filter p xs) f)) more

-- what each has the least has
least_has : (P : ℕ → Type 0) → ((a b : ℕ) → P a → P b → P (min a b)) → (xs : List ℕ) (h : ℕ)
    → AllByRecursion P xs → least xs ≡ Some h → P h
least_has P either [] h all e = absurd (let bad : ◌≡◌ {A = Option ℕ} None (Some h) = e in cc)
least_has P either (x ∷ xs) h all e = go (least xs) refl e (λ k. least_has P either xs k all.1)
  where
    go : (o : Option ℕ) → least xs ≡ o
        → ◌≡◌ {A = Option ℕ} (Some (option_map_or (min x) o x)) (Some h)
        → ((k : ℕ) → least xs ≡ Some k → P k) → P h
    go None is f later = let same : x ≡ h = cc in subst P same all.0
    go (Some k) is f later =
        let same : min x k ≡ h = cc in subst P same (either x k all.0 (later k is))

-- the later acknowledgement isn't below the earlier one
abbrev NotBelow : Option ℕ → Option ℕ → Type 0
NotBelow None later = ⊤
NotBelow (Some a) None = ⊥
NotBelow (Some a) (Some b) = a ≤ b

not_below_itself : (o : Option ℕ) → NotBelow o o
not_below_itself None = tt
not_below_itself (Some a) = omega arith

module _ (s : State) where
  abbrev is_pending : List Note → ℕ → Bool
  is_pending notes h =
      option_map_or (λ a. nat_lt a h) (last_ack notes) true && nat_le (greatest_floor notes) h

  no_more_pending : (more : List Note) → NotBelow (last_ack s.notes) (last_ack (s.notes ++ more))
      → length (pending (with_notes s more)) ≤ length (pending s)
  no_more_pending more kept =
      fewer (is_pending s.notes) (is_pending (s.notes ++ more)) weaker s.given
    where
      floor : greatest_floor s.notes ≤ greatest_floor (s.notes ++ more)
      floor =
          subst (λ (xs : List ℕ). greatest_floor s.notes ≤ greatest xs)
          (sym (filter_map_both floor_height s.notes more))
          (greater_front (filter_map floor_height s.notes) (filter_map floor_height more))

      passes : (a b : Option ℕ) (h : ℕ) → NotBelow a b
          → option_map_or (λ x. nat_lt x h) b true ≡ true
          → option_map_or (λ x. nat_lt x h) a true ≡ true
      passes None b h le t = refl
      passes (Some a) None h le t = absurd le
      passes (Some a) (Some b) h le t = lt-ltb a h (omega (arith, le, ltb-true b h t))

      weaker : (h : ℕ) → is_pending (s.notes ++ more) h ≡ true → is_pending s.notes h ≡ true
      weaker h t =
          let parts =
          and_parts (option_map_or (λ a. nat_lt a h) (last_ack (s.notes ++ more)) true)
          (nat_le (greatest_floor (s.notes ++ more)) h) t in
          and_from (option_map_or (λ a. nat_lt a h) (last_ack s.notes) true)
          (nat_le (greatest_floor s.notes) h)
          (passes (last_ack s.notes) (last_ack (s.notes ++ more)) h kept parts.0)
          (le-leb (greatest_floor s.notes) h
          (omega (arith, floor, leb-true (greatest_floor (s.notes ++ more)) h parts.1)))

  -- the Floor notes behind a call's own acknowledge nothing
  acks_of : (r : Rules) (own : List Note)
      → filter_map acked_height (s.notes ++ with_floors r s own)
      ≡ filter_map acked_height s.notes ++ filter_map acked_height own
  acks_of r own =
      let behind = floors r (with_notes s own) s.came.wishes in
      ap (filter_map acked_height) (sym (append_assoc s.notes own behind))
      ∙ no_acks (s.notes ++ own) behind (all_floors r (with_notes s own) s.came.wishes)
      ∙ filter_map_both acked_height s.notes own

  pub written_pending : (r : Rules) (own : List Note) → filter_map acked_height own ≡ []
      → length (pending (with_notes s (with_floors r s own))) ≤ length (pending s)
  written_pending r own none =
      let same =
      acks_of r own ∙ ap (λ l. filter_map acked_height s.notes ++ l) none
      ∙ append-nil (filter_map acked_height s.notes) in
      no_more_pending (with_floors r s own)
      (subst (λ (l : List ℕ). NotBelow (last_ack s.notes) (last_or None l)) (sym same)
      (not_below_itself (last_ack s.notes)))

  last_added : (o : Option ℕ) (xs : List ℕ) (x : ℕ) → last_or o (xs ++ x ∷ []) ≡ Some x
  last_added o [] x = refl
  last_added o (y ∷ ys) x = last_added (Some y) ys x

  -- the least pending height is above the last acknowledgement
  least_above : (h : ℕ) → least (pending s) ≡ Some h → NotBelow (last_ack s.notes) (Some h)
  least_above h e =
      least_has (λ x. NotBelow (last_ack s.notes) (Some x)) (either (last_ack s.notes)) (pending s)
      h (weaken (pending s) (all_pass (is_pending s.notes) s.given)) e
    where
      either : (o : Option ℕ) (a b : ℕ) → NotBelow o (Some a) → NotBelow o (Some b)
          → NotBelow o (Some (min a b))
      either None a b x y = tt
      either (Some o) a b x y = omega (arith, x, y)

      above : (o : Option ℕ) (x : ℕ) → option_map_or (λ a. nat_lt a x) o true ≡ true
          → NotBelow o (Some x)
      above None x t = tt
      above (Some a) x t = omega (arith, ltb-true a x t)

      weaken : (xs : List ℕ) → AllByRecursion (λ x. is_pending s.notes x ≡ true) xs
          → AllByRecursion (λ x. NotBelow (last_ack s.notes) (Some x)) xs
      weaken [] all = tt
      weaken (x ∷ xs) all = (
        above (last_ack s.notes) x
            ((and_parts (option_map_or (λ a. nat_lt a x) (last_ack s.notes) true)
            (nat_le (greatest_floor s.notes) x) all.0).0),
        weaken xs all.1,
      )

  pub acknowledged_pending : (r : Rules)
      → length (pending (with_notes s (with_floors r s (ack_notes s)))) ≤ length (pending s)
  acknowledged_pending r = go (least (pending s)) refl
    where
      go : (o : Option ℕ) → least (pending s) ≡ o
          → length
          (pending (with_notes s (with_floors r s (option_map_or (λ h. Note.Ack h ∷ []) o []))))
          ≤ length (pending s)
      go None e = written_pending r [] refl
      go (Some h) e =
          let now : last_ack (s.notes ++ with_floors r s (Note.Ack h ∷ [])) ≡ Some h =
          ap (last_or None) (acks_of r (Note.Ack h ∷ []))
          ∙ last_added None (filter_map acked_height s.notes) h in
          no_more_pending (with_floors r s (Note.Ack h ∷ []))
          (subst (NotBelow (last_ack s.notes)) (sym now) (least_above h e))
