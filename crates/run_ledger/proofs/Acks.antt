-- Which notes of a step acknowledge a height: that of an Ack event, a height that was handed out.
use Rattle.std.proofs.Common.{◌≡◌, ℕ, ◌-◌, ◌*◌, ◌^◌, ◌≤◌, ◌==◌, ◌&&◌, Bool, true, false, cond, nat_le, nat_lt, min, List, [], ◌∷◌, ◌++◌, Option, Some, None, filter, refl, sym, ◌∙◌, ap, subst, inl, inr, ◌⊎◌, arith}
use Rattle.std.specs.List.{last_or}
use Rattle.std.specs.Option.{option_map_or}
use Rattle.std.proofs.lemmas.Option.{same_Some}
use Rattle.cw_types.specs.declared.event.Event.{Event}
use Rattle.cw_types.specs.declared.note.Note.{Note}
use Rattle.cw_rules.specs.Accepted.{State}
use Rattle.cw_rules.specs.Direct.{direct, least}
use Rattle.cw_rules.specs.Held.{greatest_floor, greatest_prune, last_ack, pending}
use Rattle.cw_rules.specs.Reached.{In}
use Rattle.cw_rules.specs.Rules.{Rules}
use Rattle.cw_rules.specs.Step.{marks, settle, step_notes, with_notes}
use Rattle.cw_rules.proofs.Lists.{in_cases}
use Rattle.cw_rules.proofs.Acks.{acks, acks_behind, settle_quiet, quiet_if, quiet_proposed, quiet_timeout}

-- ---- what a step acknowledges was handed out

-- the least of some numbers is one of them
least_in : (xs : List ℕ) (x : ℕ) → least xs ≡ Some x → In x xs
least_in [] x e = cc
least_in (y ∷ ys) x e = go (least ys) refl (least_in ys)
  where
    go : (o : Option ℕ) → least ys ≡ o → ((z : ℕ) → least ys ≡ Some z → In z ys) → In x (y ∷ ys)
    go None is later =
        inl (sym (same_Some y x (ap (λ p. Some (option_map_or (min y) p y)) (sym is) ∙ e)))
    go (Some z) is later = by (nat_le y z) refl
      where
        which : min y z ≡ x
        which = same_Some (min y z) x (ap (λ p. Some (option_map_or (min y) p y)) (sym is) ∙ e)

        by : (b : Bool) → nat_le y z ≡ b → In x (y ∷ ys)
        by true le = inl (let s : min y z ≡ y = grind arith in sym which ∙ s)
        by false gt =
            inr
            (let s : min y z ≡ z = grind arith in
            subst (λ n. In n ys) (sym s ∙ which) (later z is))

-- what passes a test is there
filter_in : (p : ℕ → Bool) (x : ℕ) (xs : List ℕ) → In x (filter p xs) → In x xs
filter_in p x [] h = h
filter_in p x (y ∷ ys) h = go (p y) h (filter_in p x ys)
  where
    go : (b : Bool) → In x (cond b (y ∷ filter p ys) (filter p ys)) → (In x (filter p ys) → In x ys)
        → In x (y ∷ ys)
    go true (inl e) later = inl e
    go true (inr k) later = inr (later k)
    go false k later = inr (later k)

none_there : (xs : List ℕ) (x : ℕ) → xs ≡ [] → In x xs → ⊥
none_there [] x e h = h
none_there (y ∷ ys) x e h = cc

least_acked : (o : Option ℕ) (x : ℕ) → In x (acks (option_map_or (λ h. Note.Ack h ∷ []) o []))
    → o ≡ Some x
least_acked None x h = absurd h
least_acked (Some y) x (inl e) = ap Some (sym e)
least_acked (Some y) x (inr h) = absurd h

direct_acks : (r : Rules) (id : ℕ) (s : State) (e : Event) (x : ℕ) → In x (acks (direct r id s e))
    → In x s.given
direct_acks r id s (Event.Propose payload) x h =
    absurd (none_there _ x (quiet_proposed r id s.notes payload) h)
direct_acks r id s (Event.Timeout view) x h =
    absurd (none_there _ x (quiet_timeout r id s.notes view) h)
direct_acks r id s Event.Ack x h =
    filter_in
    (λ h. option_map_or (λ a. nat_lt a h) (last_ack s.notes) true
    && nat_le (greatest_floor s.notes) h)
    x s.given (least_in (pending s) x (least_acked (least (pending s)) x h))
direct_acks r id s (Event.Prune p) x h =
    absurd
    (none_there _ x
    (quiet_if
    (option_map_or (λ a. nat_le p a) (last_ack s.notes) false
    && nat_lt (greatest_prune s.notes) p)
    (Note.Prune p ∷ []) refl)
    h)
direct_acks r id s _ x h = absurd h

-- what the notes of a step acknowledge was handed out before
pub step_acks : (r : Rules) (id : ℕ) (s : State) (e : Event) (x : ℕ)
    → In x (acks (step_notes r id s e)) → In x s.given
step_acks r id s e x h =
    let first = direct r id s e in
    let after = with_notes s first in
    go
    (in_cases x (acks first) (acks (settle r id (marks after) after))
    (subst (λ l. In x l) (acks_behind first (settle r id (marks after) after)) h))
  where
    go : In x (acks (direct r id s e))
        ⊎ In x
        (acks
        (settle r id (marks (with_notes s (direct r id s e)))
        (with_notes s (direct r id s e))))
        → In x s.given
    go (inl k) = direct_acks r id s e x k
    go (inr k) =
        absurd
        (none_there _ x
        (settle_quiet r id (marks (with_notes s (direct r id s e)))
        (with_notes s (direct r id s e)))
        k)

-- the last of some is one of them
last_in : (o : Option ℕ) (xs : List ℕ) (x : ℕ) → last_or o xs ≡ Some x → (o ≡ Some x) ⊎ In x xs
last_in o [] x e = inl e
last_in o (y ∷ ys) x e = go (last_in (Some y) ys x e)
  where
    go : (Some y ≡ Some x) ⊎ In x ys → (o ≡ Some x) ⊎ In x (y ∷ ys)
    go (inl s) = inr (inl (sym (same_Some y x s)))
    go (inr k) = inr (inr k)

pub last_there : (xs : List ℕ) (x : ℕ) → last_or None xs ≡ Some x → In x xs
last_there xs x e = go (last_in None xs x e)
  where
    go : (◌≡◌ {A = Option ℕ} None (Some x)) ⊎ In x xs → In x xs
    go (inl s) = cc
    go (inr k) = k
