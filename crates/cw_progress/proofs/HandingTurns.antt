-- What an acknowledgement leaves of its member, and what it hands out.
use Rattle.std.proofs.Common.{◌≡◌, ℕ, zero, suc, ◌+◌, ◌<◌, ◌≤◌, Bool, true, false, cond, min, nat_lt, nat_le, List, [], ◌∷◌, ◌++◌, Option, Some, None, filter, length, map, refl, sym, ◌∙◌, ap, subst, inl, inr, ◌⊎◌, arith, append_assoc, append-nil, ltb-true}
use Rattle.std.specs.List.{last_or}
use Rattle.std.specs.Option.{option_map_or}
use Rattle.std.proofs.lemmas.Bool.{and_from, and_parts, cases_Bool, cases_lt, false≢true, lt-ltb}
use Rattle.cw_types.specs.declared.event.Event.{Event}
use Rattle.cw_types.specs.declared.event.Handed.{Handed}
use Rattle.cw_types.specs.declared.note.Note.{Note}
use Rattle.cw_types.specs.declared.vote.Vote.{Vote}
use Rattle.cw_rules.specs.Accepted.{State}
use Rattle.cw_rules.specs.Direct.{least}
use Rattle.cw_rules.specs.Held.{greatest_floor, is_pending, last_ack, next, next_of, pending}
use Rattle.cw_rules.specs.Reached.{In}
use Rattle.cw_rules.specs.Rules.{Rules}
use Rattle.cw_rules.specs.Step.{Member, Stepped, deliveries, deliveries_within, delivery, marks, member_notes, most_delivered, settle, state_of, step, step_notes, with_given, with_handed, with_notes}
use Rattle.cw_rules.proofs.Acks.{acks, acks_behind, settle_quiet}
use Rattle.cw_rules.proofs.Deliveries.{delivery_is, last_added, next_given}
use Rattle.cw_rules.proofs.Worlds.{frames_join}
use Rattle.cw_progress.proofs.HandingNotes.{AreMild, IsCalm, calm_stays, floor_same, mild_ack, next_alike, settle_mild}
use Rattle.cw_progress.proofs.Outs.{filter_from}
use Rattle.cw_progress.proofs.Rests.{least_in}

-- ---- lists

last_some : (xs : List ℕ) (x : ℕ) → (g : ℕ) × (last_or (Some x) xs ≡ Some g)
last_some [] x = (x, refl)
last_some (y ∷ ys) x = last_some ys y

-- a list in which something is has a last element
last_there : (xs : List ℕ) (x : ℕ) → In x xs → (g : ℕ) × (last_or None xs ≡ Some g)
last_there [] x h = absurd h
last_there (y ∷ ys) x h = last_some ys y

-- and a least one
pub least_some : (xs : List ℕ) → 0 < length xs → (a : ℕ) × (least xs ≡ Some a)
least_some [] pos = absurd (omega (arith, pos))
least_some (x ∷ xs) pos = (option_map_or (min x) (least xs) x, refl)

pub least_there : (xs : List ℕ) (x : ℕ) → In x xs → (a : ℕ) × (least xs ≡ Some a)
least_there [] x h = absurd h
least_there (y ∷ ys) x h = (option_map_or (min y) (least ys) y, refl)

module _ (p q : ℕ → Bool) (weaker : (x : ℕ) → q x ≡ true → p x ≡ true) where
  no_more : (xs : List ℕ) → length (filter q xs) ≤ length (filter p xs)
  no_more [] = omega arith
  no_more (x ∷ xs) = go (q x) refl (p x) refl (no_more xs)
    where
      go : (b : Bool) → q x ≡ b → (c : Bool) → p x ≡ c
          → length (filter q xs) ≤ length (filter p xs)
          → length (cond b (x ∷ filter q xs) (filter q xs))
          ≤ length (cond c (x ∷ filter p xs) (filter p xs))
      go true e true f later = omega (arith, later)
      go true e false f later = absurd (false≢true (sym f ∙ weaker x e))
      go false e true f later = omega (arith, later)
      go false e false f later = later

  -- fewer pass the stronger test, where one passes the weaker alone
  fewer : (xs : List ℕ) (a : ℕ) → In a xs → p a ≡ true → q a ≡ false
      → length (filter q xs) < length (filter p xs)
  fewer [] a h t f = absurd h
  fewer (x ∷ xs) a h t f = go (q x) refl (p x) refl h (λ k. fewer xs a k t f) (no_more xs)
    where
      go : (b : Bool) → q x ≡ b → (c : Bool) → p x ≡ c → (a ≡ x) ⊎ In a xs
          → (In a xs → length (filter q xs) < length (filter p xs))
          → length (filter q xs) ≤ length (filter p xs)
          → length (cond b (x ∷ filter q xs) (filter q xs))
          < length (cond c (x ∷ filter p xs) (filter p xs))
      go true e true g (inl s) later le = absurd (false≢true (sym f ∙ (ap q s ∙ e)))
      go true e true g (inr k) later le = omega (arith, later k)
      go true e false g k later le = absurd (false≢true (sym g ∙ weaker x e))
      go false e true g k later le = omega (arith, le)
      go false e false g (inl s) later le = absurd (false≢true (sym g ∙ (ap p (sym s) ∙ t)))
      go false e false g (inr k) later le = later k

-- ---- pending heights

-- where the least pending height is acknowledged fewer are pending
acked_fewer : (last : Option ℕ) (floor : ℕ) (given : List ℕ) (a : ℕ) → In a given
    → is_pending last floor a ≡ true
    → length (filter (is_pending (Some a) floor) given)
    < length (filter (is_pending last floor) given)
acked_fewer last floor given a at h =
    fewer (is_pending last floor) (is_pending (Some a) floor) weaker given a at h
    (own (cases_Bool (is_pending (Some a) floor a)))
  where
    above : ℕ → Option ℕ → Bool
    above x o = option_map_or (λ l. nat_lt l x) o true

    higher : (o : Option ℕ) (x : ℕ) → above a o ≡ true → a < x → above x o ≡ true
    higher None x t lt = refl
    higher (Some l) x t lt = lt-ltb l x (omega (arith, ltb-true l a t, lt))

    weaker : (x : ℕ) → is_pending (Some a) floor x ≡ true → is_pending last floor x ≡ true
    weaker x t =
        let p = and_parts (nat_lt a x) (nat_le floor x) t in
        and_from (above x last) (nat_le floor x)
        (higher last x (and_parts (above a last) (nat_le floor a) h).0 (ltb-true a x p.0)) p.1

    own : (is_pending (Some a) floor a ≡ true) ⊎ (is_pending (Some a) floor a ≡ false)
        → is_pending (Some a) floor a ≡ false
    own (inl t) =
        absurd
        (omega (arith, ltb-true a a (and_parts (nat_lt a a) (nat_le floor a) t).0))
    own (inr f) = f

-- ---- what is handed out

module _ (r : Rules) where
  none_next : (s : State) → next (with_handed s []) ≡ next s
  none_next s = ap (next_of s.notes) (append-nil s.given)

  more_next : (s : State) (x : Handed) (out : List Handed)
      → next (with_handed s (x ∷ out)) ≡ next (with_handed (with_given s x.height) out)
  more_next s x out =
      ap (next_of s.notes)
      (sym (append_assoc s.given (x.height ∷ []) (map (λ (y : Handed). y.height) out)))

  -- a block that is handed out is the next one
  one_next : (s : State) (x : Handed) → delivery r s ≡ Some x
      → (x.height ≡ next s) × (next (with_given s x.height) ≡ next s + 1)
  one_next s x e =
      let is = delivery_is r s x e in
      (is.1, omega (arith, is.1, next_given r s x.height))

  -- the next height only rises
  pub rising : (steps : ℕ) (s : State) → next s ≤ next (with_handed s (deliveries_within r steps s))
  rising zero s = omega (arith, none_next s)
  rising (suc steps) s =
      go (delivery r s) refl (λ h. rising steps (with_given s h))
    where
      go : (o : Option Handed) → delivery r s ≡ o
          → ((h : ℕ)
          → next (with_given s h)
          ≤ next (with_handed (with_given s h) (deliveries_within r steps (with_given s h))))
          → next s
          ≤ next
          (with_handed s
          (option_map_or (λ x. x ∷ deliveries_within r steps (with_given s x.height)) o []))
      go None e later = omega (arith, none_next s)
      go (Some x) e later =
          omega (
            arith,
            (one_next s x e).1,
            later x.height,
            more_next s x (deliveries_within r steps (with_given s x.height)),
          )

  -- nothing is handed out, or it rises
  none_or_rises : (steps : ℕ) (s : State)
      → (deliveries_within r steps s ≡ [])
      ⊎ (next s < next (with_handed s (deliveries_within r steps s)))
  none_or_rises zero s = inl refl
  none_or_rises (suc steps) s = go (delivery r s) refl
    where
      go : (o : Option Handed) → delivery r s ≡ o
          → (option_map_or (λ x. x ∷ deliveries_within r steps (with_given s x.height)) o [] ≡ [])
          ⊎ (next s
          < next
          (with_handed s
          (option_map_or (λ x. x ∷ deliveries_within r steps (with_given s x.height)) o [])))
      go None e = inl refl
      go (Some x) e =
          inr
          (omega (
            arith,
            (one_next s x e).1,
            rising steps (with_given s x.height),
            more_next s x (deliveries_within r steps (with_given s x.height)),
          ))

  -- each height that it passes is handed out
  pub passed : (steps : ℕ) (s : State) (h : ℕ) → next s ≤ h
      → h < next (with_handed s (deliveries_within r steps s))
      → (x : Handed) × In x (deliveries_within r steps s) × (x.height ≡ h)
  passed zero s h low high = absurd (omega (arith, none_next s, low, high))
  passed (suc steps) s h low high =
      go (delivery r s) refl (λ x. passed steps (with_given s x) h) high
    where
      outs : Option Handed → List Handed
      outs o = option_map_or (λ x. x ∷ deliveries_within r steps (with_given s x.height)) o []

      go : (o : Option Handed) → delivery r s ≡ o
          → ((y : ℕ) → next (with_given s y) ≤ h
          → h < next (with_handed (with_given s y) (deliveries_within r steps (with_given s y)))
          → (x : Handed) × In x (deliveries_within r steps (with_given s y)) × (x.height ≡ h))
          → h < next (with_handed s (outs o)) → (x : Handed) × In x (outs o) × (x.height ≡ h)
      go None e later up = absurd (omega (arith, none_next s, low, up))
      go (Some x) e later up = by_order (cases_lt (next s) h)
        where
          by_order : (next s < h) ⊎ (h ≤ next s)
              → (y : Handed) × In y (outs (Some x)) × (y.height ≡ h)
          by_order (inr le) = (x, inl refl, omega (arith, (one_next s x e).0, low, le))
          by_order (inl lt) =
              let (y, at, is) =
              later x.height (omega (arith, (one_next s x e).1, lt))
              (omega (
                arith,
                up,
                more_next s x (deliveries_within r steps (with_given s x.height)),
              )) in
              (y, inr at, is)

-- ---- the turn

-- the member's turn by an acknowledgement, and what it leaves
pub record AckTurn (r : Rules) (m : Member) (done : Stepped) (a : ℕ) : Type 0 where
  pub more : List Note
  pub joined : member_notes done.member ≡ member_notes m ++ Note.Ack a ∷ more
  pub mild : AreMild (Note.Ack a ∷ more)
  pub acked : last_ack (member_notes done.member) ≡ Some a
  pub rises : next (state_of m) ≤ next (state_of done.member)
  pub less : (next (state_of m) < next (state_of done.member))
      ⊎ (length (pending (state_of done.member)) < length (pending (state_of m)))
  pub passes : (h : ℕ) → next (state_of m) ≤ h → h < next (state_of done.member)
      → (x : Handed) × In x done.handed × (x.height ≡ h)

module _ (r : Rules) (id : ℕ) (sign : ℕ → Vote → Bool) (m : Member)
    (calm : IsCalm r (state_of m)) (a : ℕ) (is : least (pending (state_of m)) ≡ Some a) where
  abbrev now : State
  now = state_of m

  abbrev done : Stepped
  done = step r id sign m Event.Ack

  -- the state with the acknowledgement
  abbrev noted : State
  noted = with_notes now (Note.Ack a ∷ [])

  abbrev more : List Note
  more = settle r id (marks noted) noted

  abbrev after : State
  after = with_notes now (Note.Ack a ∷ more)

  written : step_notes r id now Event.Ack ≡ Note.Ack a ∷ more
  written =
      ap
      (λ (o : Option ℕ). option_map_or (λ h. Note.Ack h ∷ []) o []
      ++ settle r id (marks (with_notes now (option_map_or (λ h. Note.Ack h ∷ []) o [])))
      (with_notes now (option_map_or (λ h. Note.Ack h ∷ []) o [])))
      is

  pending_here : In a m.given
      × (is_pending (last_ack now.notes) (greatest_floor now.notes) a ≡ true)
  pending_here =
      filter_from (is_pending (last_ack now.notes) (greatest_floor now.notes)) m.given a
      (least_in (pending now) a is)

  last : (g : ℕ) × (last_or None m.given ≡ Some g)
  last = last_there m.given a pending_here.0

  mild : AreMild (Note.Ack a ∷ more)
  mild = (
    mild_ack a,
    settle_mild r id (marks noted) noted last.0 last.1
        (calm_stays r now last.0 last.1 (Note.Ack a ∷ []) (mild_ack a, tt) calm),
  )

  acked : last_ack after.notes ≡ Some a
  acked =
      ap (λ (xs : List ℕ). last_or None xs)
      (acks_behind now.notes (Note.Ack a ∷ more)
      ∙ ap (λ xs. acks now.notes ++ a ∷ xs) (settle_quiet r id (marks noted) noted))
      ∙ last_added r None (acks now.notes) a

  next_same : next after ≡ next now
  next_same = next_alike now.notes (Note.Ack a ∷ more) mild m.given last.0 last.1

  fewer_pending : length (pending after) < length (pending now)
  fewer_pending =
      subst
      (λ o. length (filter (is_pending o (greatest_floor after.notes)) m.given)
      < length (pending now))
      (sym acked)
      (subst (λ f. length (filter (is_pending (Some a) f) m.given) < length (pending now))
      (sym (floor_same now.notes (Note.Ack a ∷ more) mild))
      (acked_fewer (last_ack now.notes) (greatest_floor now.notes) m.given a pending_here.0
      pending_here.1))

  abbrev out : List Handed
  out = deliveries r after

  -- what the turn leaves, where it writes those notes
  abbrev handing : State
  handing = with_handed after out

  less_by : (deliveries_within r (most_delivered r after) after ≡ []) ⊎ (next after < next handing)
      → (next now < next handing) ⊎ (length (pending handing) < length (pending now))
  less_by (inr lt) = inl (omega (arith, next_same, lt))
  less_by (inl none) =
      inr
      (subst
      (λ (xs : List Handed). length (pending (with_handed after xs)) < length (pending now))
      (sym none)
      (subst
      (λ (gs : List ℕ). length
      (filter (is_pending (last_ack after.notes) (greatest_floor after.notes)) gs)
      < length (pending now))
      (sym (append-nil m.given)) fewer_pending))

  handing_is : state_of done.member ≡ handing
  handing_is =
      (λ i. record {
        notes = frames_join m.frames (step_notes r id now Event.Ack) i;
        came = m.came;
        given = done.member.given;
      })
      ∙ ap (λ ns. with_handed (with_notes now ns) (deliveries r (with_notes now ns))) written

  pub ack_turn : AckTurn r m done a
  ack_turn = record {
    more = more;
    joined = ap (λ (t : State). t.notes) handing_is;
    mild = mild;
    acked = ap (λ (t : State). last_ack t.notes) handing_is ∙ acked;
    rises =
        omega (arith, ap next handing_is, next_same, rising r (most_delivered r after) after);
    less =
        subst (λ t. (next now < next t) ⊎ (length (pending t) < length (pending now)))
        (sym handing_is) (less_by (none_or_rises r (most_delivered r after) after));
    passes =
        λ h low high.
        subst (λ (xs : List Handed). (x : Handed) × In x xs × (x.height ≡ h))
        (sym (ap (λ ns. deliveries r (with_notes now ns)) written))
        (passed r (most_delivered r after) after h (omega (arith, next_same, low))
        (omega (arith, high, ap next handing_is)));
  }
