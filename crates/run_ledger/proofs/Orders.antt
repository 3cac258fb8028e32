-- The heights that are handed out to a member: each is the next one, or at most the next one, or a
-- floor lies above all that are missing.
use Rattle.std.proofs.Common.{◌≡◌, ◌⊎◌, inl, inr, ℕ, zero, suc, ◌+◌, ◌<◌, ◌≤◌, ◌==◌, cond, max, List, [], ◌∷◌, ◌++◌, map, fold, Option, Some, None, refl, sym, ◌∙◌, ap, subst, arith, append_assoc, append-nil}
use Rattle.std.specs.List.{last_or}
use Rattle.std.specs.Option.{option_map_or}
use Rattle.std.proofs.lemmas.Bool.{cases_eq, cases_lt, eq-eqb, ne_eqb}
use Rattle.cw_types.specs.declared.event.Handed.{Handed}
use Rattle.cw_types.specs.declared.note.Note.{Note}
use Rattle.cw_rules.specs.Accepted.{State}
use Rattle.cw_rules.specs.Held.{greatest_floor, last_ack, next, resume}
use Rattle.cw_rules.specs.Reached.{In}
use Rattle.cw_rules.specs.Rules.{Rules}
use Rattle.cw_rules.specs.Step.{deliveries_within, delivery, with_given}
use Rattle.cw_rules.proofs.Lists.{in_cases, in_left, in_right}
use Rattle.run_ledger.proofs.Acks.{last_there}
use Rattle.cw_rules.proofs.Acks.{acks, acks_behind, floor_grows}
use Rattle.node.proofs.Rising.{height_is}

-- the next height after one was handed out
abbrev pub after_one : ℕ → ℕ → ℕ
after_one next height = cond (height == next) (next + 1) next

-- the height that is next after these
abbrev pub reached_by : List ℕ → ℕ
reached_by heights = fold after_one 0 heights

fold_push : (n : ℕ) (xs : List ℕ) (x : ℕ)
    → fold after_one n (xs ++ x ∷ []) ≡ after_one (fold after_one n xs) x
fold_push n [] x = refl
fold_push n (y ∷ ys) x = fold_push (after_one n y) ys x

-- what is known of the heights handed out to a member with these notes, which was given these since
-- its start
pub record IsInOrder (heights : List ℕ) (notes : List Note) (given : List ℕ) : Type 0 where
  pub low : (h : ℕ) → h < reached_by heights → In h heights
  pub out : In (reached_by heights) heights → ⊥
  pub high : (h : ℕ) → In h heights
      → (h < reached_by heights) ⊎ (reached_by heights < greatest_floor notes)
  pub given_in : (h : ℕ) → In h given → In h heights
  pub acked_in : (h : ℕ) → In h (acks notes) → In h heights

pub nothing_yet : IsInOrder [] [] []
nothing_yet = record {
  low = λ h lt. absurd (omega arith);
  out = λ h. h;
  high = λ h there. absurd there;
  given_in = λ h there. there;
  acked_in = λ h there. there;
}

-- ---- one height more

-- a height that may be handed out: no floor is above it, and it is the first, a floor, or behind
-- one that was handed out
abbrev pub MayCome : List ℕ → List Note → ℕ → Type 0
MayCome heights notes height =
    (greatest_floor notes ≤ height)
    × ((height ≡ greatest_floor notes) ⊎ (height ≡ 0)
    ⊎ ((before : ℕ) × (height ≡ before + 1) × In before heights))

one_of : (x y : ℕ) → In x (y ∷ []) → x ≡ y
one_of x y (inl e) = e
one_of x y (inr h) = absurd h

module _ (heights : List ℕ) (notes : List Note) (given : List ℕ) (height : ℕ)
    (is : IsInOrder heights notes given) (may : MayCome heights notes height) where
  abbrev n : ℕ
  n = reached_by heights

  abbrev more : List ℕ
  more = heights ++ height ∷ []

  given_more : (h : ℕ) → In h (given ++ height ∷ []) → In h more
  given_more h there = go (in_cases h given (height ∷ []) there)
    where
      go : In h given ⊎ In h (height ∷ []) → In h more
      go (inl k) = in_left h heights (height ∷ []) (is.given_in h k)
      go (inr k) = in_right h heights (height ∷ []) k

  acked_more : (h : ℕ) → In h (acks notes) → In h more
  acked_more h there = in_left h heights (height ∷ []) (is.acked_in h there)

  next_came : height ≡ n → IsInOrder more notes (given ++ height ∷ [])
  next_came same = record {
    low = λ h lt. low h (cases_lt h n) (omega (arith, now));
    out = λ there. out (in_cases (reached_by more) heights (height ∷ []) there);
    high = λ h there. high h (in_cases h heights (height ∷ []) there);
    given_in = given_more;
    acked_in = acked_more;
  }
    where
      now : reached_by more ≡ n + 1
      now = fold_push 0 heights height ∙ ap (λ b. cond b (n + 1) n) (eq-eqb height n same)

      low : (h : ℕ) → (h < n) ⊎ (n ≤ h) → h < n + 1 → In h more
      low h (inl lt) below = in_left h heights (height ∷ []) (is.low h lt)
      low h (inr le) below =
          in_right h heights (height ∷ []) (inl (let e : h ≡ height = omega (arith, same) in e))

      out : In (reached_by more) heights ⊎ In (reached_by more) (height ∷ []) → ⊥
      out (inl there) = by (is.high (reached_by more) there)
        where
          by : (reached_by more < n) ⊎ (n < greatest_floor notes) → ⊥
          by (inl lt) = omega (arith, now)
          by (inr lt) = omega (arith, may.0, same)
      out (inr there) = omega (arith, one_of (reached_by more) height there, now, same)

      high : (h : ℕ) → In h heights ⊎ In h (height ∷ [])
          → (h < reached_by more) ⊎ (reached_by more < greatest_floor notes)
      high h (inl there) = by (is.high h there)
        where
          by : (h < n) ⊎ (n < greatest_floor notes)
              → (h < reached_by more) ⊎ (reached_by more < greatest_floor notes)
          by (inl lt) = inl (omega (arith, now))
          by (inr lt) = absurd (omega (arith, may.0, same))
      high h (inr there) = inl (omega (arith, one_of h height there, now, same))

  other_came : (height ≡ n → ⊥) → IsInOrder more notes (given ++ height ∷ [])
  other_came other = record {
    low = λ h lt. in_left h heights (height ∷ []) (is.low h (omega (arith, now)));
    out = λ there. out (in_cases (reached_by more) heights (height ∷ []) there);
    high = λ h there. high h (in_cases h heights (height ∷ []) there);
    given_in = given_more;
    acked_in = acked_more;
  }
    where
      now : reached_by more ≡ n
      now = fold_push 0 heights height ∙ ap (λ b. cond b (n + 1) n) (ne_eqb height n other)

      out : In (reached_by more) heights ⊎ In (reached_by more) (height ∷ []) → ⊥
      out (inl there) = is.out (subst (λ k. In k heights) now there)
      out (inr there) = other (sym (one_of (reached_by more) height there) ∙ now)

      above : n < height
          → (height ≡ greatest_floor notes) ⊎ (height ≡ 0)
          ⊎ ((before : ℕ) × (height ≡ before + 1) × In before heights)
          → n < greatest_floor notes
      above lt (inl floor) = omega arith
      above lt (inr (inl first)) = absurd (omega arith)
      above lt (inr (inr (before, behind, there))) = by (is.high before there)
        where
          by : (before < n) ⊎ (n < greatest_floor notes) → n < greatest_floor notes
          by (inl less) = absurd (omega arith)
          by (inr less) = less

      high : (h : ℕ) → In h heights ⊎ In h (height ∷ [])
          → (h < reached_by more) ⊎ (reached_by more < greatest_floor notes)
      high h (inl there) = by (is.high h there)
        where
          by : (h < n) ⊎ (n < greatest_floor notes)
              → (h < reached_by more) ⊎ (reached_by more < greatest_floor notes)
          by (inl lt) = inl (omega (arith, now))
          by (inr lt) = inr (omega (arith, now))
      high h (inr there) = by (cases_lt height n)
        where
          by : (height < n) ⊎ (n ≤ height)
              → (h < reached_by more) ⊎ (reached_by more < greatest_floor notes)
          by (inl lt) = inl (omega (arith, one_of h height there, now))
          by (inr le) = inr (omega (arith, above (omega (arith, other)) may.1, now))

  pub one_more : IsInOrder more notes (given ++ height ∷ [])
  one_more = go (cases_eq height n)
    where
      go : (height ≡ n) ⊎ (height ≡ n → ⊥) → IsInOrder more notes (given ++ height ∷ [])
      go (inl same) = next_came same
      go (inr other) = other_came other

-- ---- what a member hands out

next_may : (heights : List ℕ) (s : State) → IsInOrder heights s.notes s.given
    → MayCome heights s.notes (next s)
next_may heights s is = (omega arith, go (last_or None s.given) refl)
  where
    floor : ℕ
    floor = greatest_floor s.notes

    behind : (before : ℕ) → In before heights → (n : ℕ) → n ≡ max (before + 1) floor
        → (n ≡ floor) ⊎ (n ≡ 0) ⊎ ((b : ℕ) × (n ≡ b + 1) × In b heights)
    behind before there n e = by (cases_lt floor (before + 1))
      where
        by : (floor < before + 1) ⊎ (before + 1 ≤ floor)
            → (n ≡ floor) ⊎ (n ≡ 0) ⊎ ((b : ℕ) × (n ≡ b + 1) × In b heights)
        by (inl lt) = inr (inr (before, omega arith, there))
        by (inr le) = inl (omega arith)

    go : (o : Option ℕ) → last_or None s.given ≡ o
        → (next s ≡ floor) ⊎ (next s ≡ 0) ⊎ ((b : ℕ) × (next s ≡ b + 1) × In b heights)
    go (Some g) e =
        behind g (is.given_in g (last_there s.given g e)) (next s)
        (ap (λ o. max (option_map_or (λ h. h + 1) o (resume s.notes)) floor) e)
    go None e = by (last_ack s.notes) refl
      where
        fresh : next s ≡ max (resume s.notes) floor
        fresh = ap (λ o. max (option_map_or (λ h. h + 1) o (resume s.notes)) floor) e

        by : (o : Option ℕ) → last_ack s.notes ≡ o
            → (next s ≡ floor) ⊎ (next s ≡ 0) ⊎ ((b : ℕ) × (next s ≡ b + 1) × In b heights)
        by (Some a) acked =
            let now : next s ≡ max (max (a + 1) floor) floor =
            fresh ∙ ap (λ o. max (max (option_map_or (λ h. h + 1) o 0) floor) floor) acked in
            behind a (is.acked_in a (last_there (acks s.notes) a acked)) (next s) (omega arith)
        by None acked =
            let now : next s ≡ max (max 0 floor) floor =
            fresh ∙ ap (λ o. max (max (option_map_or (λ h. h + 1) o 0) floor) floor) acked in
            inl (omega arith)

-- what is handed out stays in order
pub handed_in_order : (r : Rules) (steps : ℕ) (s : State) (heights : List ℕ)
    → IsInOrder heights s.notes s.given
    → IsInOrder (heights ++ map (λ h. h.height) (deliveries_within r steps s)) s.notes
    (s.given ++ map (λ h. h.height) (deliveries_within r steps s))
handed_in_order r zero s heights is =
    subst (λ l. IsInOrder l s.notes (s.given ++ [])) (sym (append-nil heights))
    (subst (λ l. IsInOrder heights s.notes l) (sym (append-nil s.given)) is)
handed_in_order r (suc steps) s heights is =
    go (delivery r s) refl (λ h. handed_in_order r steps (with_given s h) (heights ++ h ∷ []))
  where
    rest : ℕ → List ℕ
    rest h = map (λ (x : Handed). x.height) (deliveries_within r steps (with_given s h))

    go : (o : Option Handed) → delivery r s ≡ o
        → ((h : ℕ) → IsInOrder (heights ++ h ∷ []) s.notes (s.given ++ h ∷ [])
        → IsInOrder ((heights ++ h ∷ []) ++ rest h) s.notes ((s.given ++ h ∷ []) ++ rest h))
        → IsInOrder
        (heights
        ++ map (λ x. x.height)
        (option_map_or (λ x. x ∷ deliveries_within r steps (with_given s x.height)) o
        []))
        s.notes
        (s.given
        ++ map (λ x. x.height)
        (option_map_or (λ x. x ∷ deliveries_within r steps (with_given s x.height)) o
        []))
    go None e later =
        subst (λ l. IsInOrder l s.notes (s.given ++ [])) (sym (append-nil heights))
        (subst (λ l. IsInOrder heights s.notes l) (sym (append-nil s.given)) is)
    go (Some h) e later =
        let may : MayCome heights s.notes h.height =
        subst (MayCome heights s.notes) (sym (height_is r s h e)) (next_may heights s is) in
        let whole = later h.height (one_more heights s.notes s.given h.height is may) in
        subst (λ l. IsInOrder l s.notes (s.given ++ h.height ∷ rest h.height))
        (append_assoc heights (h.height ∷ []) (rest h.height))
        (subst (λ l. IsInOrder ((heights ++ h.height ∷ []) ++ rest h.height) s.notes l)
        (append_assoc s.given (h.height ∷ []) (rest h.height)) whole)

-- more notes, which acknowledge only what was handed out
pub noted_in_order : (heights : List ℕ) (notes more : List Note) (given : List ℕ)
    → IsInOrder heights notes given → ((h : ℕ) → In h (acks more) → In h given)
    → IsInOrder heights (notes ++ more) given
noted_in_order heights notes more given is acked = record {
  low = is.low;
  out = is.out;
  high = λ h there. go (is.high h there);
  given_in = is.given_in;
  acked_in =
      λ h there. by h
      (in_cases h (acks notes) (acks more)
      (subst (λ l. In h l) (acks_behind notes more) there));
}
  where
    go : {P : Type 0} → P ⊎ (reached_by heights < greatest_floor notes)
        → P ⊎ (reached_by heights < greatest_floor (notes ++ more))
    go (inl p) = inl p
    go (inr lt) = inr (omega (arith, floor_grows notes more))

    by : (h : ℕ) → In h (acks notes) ⊎ In h (acks more) → In h heights
    by h (inl there) = is.acked_in h there
    by h (inr there) = is.given_in h (acked h there)

-- a start forgets what was given
pub started_in_order : (heights : List ℕ) (notes : List Note) (given : List ℕ)
    → IsInOrder heights notes given → IsInOrder heights notes []
started_in_order heights notes given is =
    record {
      low = is.low;
      out = is.out;
      high = is.high;
      given_in = λ h there. absurd there;
      acked_in = is.acked_in;
    }
