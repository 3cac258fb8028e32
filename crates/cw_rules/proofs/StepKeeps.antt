-- Each note of a step has among the notes before it what it rests on.
use Rattle.std.proofs.Common.{◌≡◌, ℕ, zero, suc, ◌+◌, ◌-◌, ◌^◌, ◌<◌, Bool, true, false, ◌&&◌, ◌||◌, ◌==◌, not, cond, List, [], ◌∷◌, ◌++◌, Option, Some, None, IsSome, refl, sym, ◌∙◌, ap, subst, inl, inr, ◌⊎◌, arith, find, nat_lt, filter_map, append_assoc, append-nil, ltb-true, lt-ltb}
use Rattle.std.specs.List.{list_any, AllByRecursion}
use Rattle.std.specs.Option.{option_map_or, option_and_then, option_map}
use Rattle.std.proofs.lemmas.Bool.{and_parts, and_from, false≢true, cases_Bool, cases_eq, cond-true, cond-false, eqb-true, not-true, or_cases, or_left, or_right}
use Rattle.std.proofs.lemmas.List.Folds.{list_any-append}
use Rattle.std.proofs.lemmas.List.Elements.{filter_map-append}
use Rattle.cw_types.specs.declared.commitment.Commitment.{Commitment}
use Rattle.cw_types.specs.declared.event.Event.{Event}
use Rattle.cw_types.specs.declared.note.Note.{Note}
use Rattle.cw_types.specs.declared.vote.Proposal.{Proposal}
use Rattle.cw_types.specs.declared.vote.Vote.TheVariants.{Notarize, Nullify}
use Rattle.cw_types.specs.Block.{Block}
use Rattle.cw_types.specs.Epochs.{is_last, is_member, is_within, leader}
use Rattle.cw_rules.specs.Accepted.{Ballot, State}
use Rattle.cw_rules.specs.Direct.{best_parent, direct, least, proposal_notes, propose_new, propose_over, proposed, proposed_block, timed_out}
use Rattle.cw_rules.specs.Held.{held, pending}
use Rattle.cw_rules.specs.Keeps.{AreAlong, IsRising, IsSound, KeepsBy, Meaning}
use Rattle.cw_rules.specs.Notes.{enters, epoch_of, has_begun, has_block, is_cert, nullified, settled, settling, view_of}
use Rattle.cw_rules.specs.Owed.{all_nullified, has_closed, has_voted, owed, votes_in}
use Rattle.cw_rules.specs.Rules.{Rules, commit, genesis_commitment}
use Rattle.cw_rules.specs.Stands.{EachAfter, IsSettled}
use Rattle.cw_rules.specs.Step.{marks, settle, step_notes, with_notes}
use Rattle.cw_rules.proofs.NoteLemmas.{any_front}
use Rattle.cw_rules.proofs.Lists.{or_some, and_then_some, map_some, range_all, all_range}
use Rattle.cw_rules.proofs.OwedKeeps.{owed_keeps, settled_tells}

-- ---- what a front tells

find_front : (p : Proposal → Bool) (xs ys : List Proposal) → IsSome (find p xs)
    → IsSome (find p (xs ++ ys))
find_front p [] ys h = absurd (false≢true h)
find_front p (x ∷ xs) ys h = go (p x) h (find_front p xs ys)
  where
    go : (b : Bool) → IsSome (cond b (Some x) (find p xs))
        → (IsSome (find p xs) → IsSome (find p (xs ++ ys)))
        → IsSome (cond b (Some x) (find p (xs ++ ys)))
    go true h later = refl
    go false h later = later h

pub IsSettled_front : (xs ys : List Note) (epoch view : ℕ) → IsSettled xs epoch view
    → IsSettled (xs ++ ys) epoch view
IsSettled_front xs ys epoch view (inl (first, begun)) =
    inl (first, go (or_cases (epoch == 0) (list_any (enters epoch) xs) begun))
  where
    go : ((epoch == 0) ≡ true) ⊎ (list_any (enters epoch) xs ≡ true)
        → has_begun (xs ++ ys) epoch ≡ true
    go (inl t) = or_left (epoch == 0) (list_any (enters epoch) (xs ++ ys)) t
    go (inr t) =
        or_right (epoch == 0) (list_any (enters epoch) (xs ++ ys))
        (any_front (enters epoch) xs ys t)
IsSettled_front xs ys epoch view (inr (pos, s)) =
    inr (
      pos,
      rw filter_map-append
          (find_front (λ p. (p.epoch == epoch) && (p.view == view)) (filter_map settling xs)
          (filter_map settling ys) s),
    )

pub all_nullified_front : (xs ys : List Note) (epoch low high : ℕ)
    → all_nullified xs epoch low high ≡ true → all_nullified (xs ++ ys) epoch low high ≡ true
all_nullified_front xs ys epoch low high h =
    all_range (nullified (xs ++ ys) epoch) (low + 1) (high - low - 1)
    (λ i a b. any_front (is_cert (Nullify epoch i)) xs ys
    (range_all (nullified xs epoch) (low + 1) (high - low - 1) h i a b))

-- ---- a proposal

-- what the best parent is
pub record IsParent (r : Rules) (notes : List Note) (epoch below : ℕ)
    (best : ℕ × Commitment × Block) : Type 0 where
  pub lower : best.0 < below
  pub settles : settled (genesis_commitment r) notes epoch best.0 ≡ Some best.1
  pub holds : held r notes best.1 ≡ Some best.2
  pub between : (view : ℕ) → best.0 < view → view < below → nullified notes epoch view ≡ true

pub parent_found : (r : Rules) (notes : List Note) (epoch below : ℕ) (best : ℕ × Commitment × Block)
    → best_parent r notes epoch below ≡ Some best → IsParent r notes epoch below best
parent_found r notes epoch zero best h = cc
parent_found r notes epoch (suc view) best h =
    go (or_some here below best h) (parent_found r notes epoch view best)
  where
    here : Option (ℕ × Commitment × Block)
    here =
        option_and_then (λ c. option_map (λ a. (view, c, a)) (held r notes c))
        (settled (genesis_commitment r) notes epoch view)

    below : Option (ℕ × Commitment × Block)
    below = cond (nullified notes epoch view) (best_parent r notes epoch view) None

    go : (here ≡ Some best) ⊎ (below ≡ Some best)
        → (best_parent r notes epoch view ≡ Some best → IsParent r notes epoch view best)
        → IsParent r notes epoch (suc view) best
    go (inl e) later =
        let (c, e1, f) =
        and_then_some (λ c. option_map (λ a. (view, c, a)) (held r notes c))
        (settled (genesis_commitment r) notes epoch view) best e in
        let (a, e2, g) = map_some (λ (a : Block). (view, c, a)) (held r notes c) best f in
        subst (IsParent r notes epoch (suc view)) g (record {
          lower = omega arith;
          settles = e1;
          holds = e2;
          between = λ v l u. absurd (omega arith);
        })
    go (inr e) later = nulled (cases_Bool (nullified notes epoch view)) e later
      where
        nulled : (nullified notes epoch view ≡ true) ⊎ (nullified notes epoch view ≡ false)
            → below ≡ Some best
            → (best_parent r notes epoch view ≡ Some best → IsParent r notes epoch view best)
            → IsParent r notes epoch (suc view) best
        nulled (inl t) e later =
            let p =
            later
            (sym
            (cond-true (nullified notes epoch view) (best_parent r notes epoch view)
            None t)
            ∙ e) in
            record {
              lower = omega (arith, p.lower);
              settles = p.settles;
              holds = p.holds;
              between = λ v l u. each p t v l u (cases_eq v view);
            }
          where
            each : IsParent r notes epoch view best → nullified notes epoch view ≡ true → (v : ℕ)
                → best.0 < v → v < suc view → (v ≡ view) ⊎ (v ≡ view → ⊥)
                → nullified notes epoch v ≡ true
            each p t v l u (inl s) = subst (λ w. nullified notes epoch w ≡ true) (sym s) t
            each p t v l u (inr n) = p.between v l (omega arith)
        nulled (inr f) e later =
            cc (cond-false (nullified notes epoch view) (best_parent r notes epoch view) None f)

-- a vote to notarize over the best parent keeps to the notes, and to those with more behind them
-- that aren't votes
vote_keeps : (r : Rules) (m : List Note → Meaning) (notes more : List Note) (epoch view : ℕ)
    (c : Commitment) (best : ℕ × Commitment × Block)
    → IsParent r notes epoch view best → 0 < view → view < 2 ^ 64 - 1
    → has_voted notes epoch view ≡ false → list_any (votes_in epoch view) more ≡ false
    → KeepsBy r m (notes ++ more) (Note.Vote (Notarize (record {
      epoch = epoch;
      view = view;
      parent = best.0;
      payload = c;
    })))
vote_keeps r m notes more epoch view c best p pos top voted none = (
  and_from (nat_lt 0 view && nat_lt view (2 ^ 64 - 1)) (nat_lt best.0 view)
      (and_from (nat_lt 0 view) (nat_lt view (2 ^ 64 - 1)) (lt-ltb 0 view pos)
      (lt-ltb view (2 ^ 64 - 1) top))
      (lt-ltb best.0 view p.lower),
  (list_any-append (votes_in epoch view) notes more
      ∙ (ap (λ b. b || list_any (votes_in epoch view) more) voted ∙ none)),
  IsSettled_front notes more epoch best.0
      (settled_tells (genesis_commitment r) notes epoch best.0 best.1 p.settles),
  all_nullified_front notes more epoch best.0 view
      (all_range (nullified notes epoch) (best.0 + 1) (view - best.0 - 1)
      (λ i a b. p.between i (omega arith) (omega (arith, p.lower)))),
)

pub each_append : (R : List Note → Note → Type 0) (before xs ys : List Note) → EachAfter R before xs
    → EachAfter R (before ++ xs) ys → EachAfter R before (xs ++ ys)
each_append R before [] ys a b = subst (λ ns. EachAfter R ns ys) (append-nil before) b
each_append R before (x ∷ xs) ys a b = (
  a.0,
  each_append R (before ++ x ∷ []) xs ys a.1
      (subst (λ ns. EachAfter R ns ys) (sym (append_assoc before (x ∷ []) xs)) b),
)

-- the notes of a proposal
proposal_keeps : (r : Rules) (m : List Note → Meaning) (notes : List Note) (epoch view : ℕ)
    (best : ℕ × Commitment × Block) (b : Block)
    → IsParent r notes epoch view best → 0 < view → view < 2 ^ 64 - 1
    → has_voted notes epoch view ≡ false
    → EachAfter (KeepsBy r m) notes (proposal_notes r notes epoch view best.0 b)
proposal_keeps r m notes epoch view best b p pos top voted = go (has_block notes (commit r b))
  where
    c : Commitment
    c = commit r b

    tail : List Note
    tail =
        Note.Verified epoch view c ∷ Note.Vote (Notarize (record {
          epoch = epoch;
          view = view;
          parent = best.0;
          payload = c;
        })) ∷ []

    go : (noted : Bool)
        → EachAfter (KeepsBy r m) notes (cond noted [] (Note.Block c b ∷ []) ++ tail)
    go true = (
      tt,
      (
        vote_keeps r m notes (Note.Verified epoch view c ∷ []) epoch view c best p pos top
            voted refl,
        tt,
      ),
    )
    go false = (
      refl,
      (
        tt,
        (
          subst
              (λ ns. KeepsBy r m ns (Note.Vote (Notarize (record {
                epoch = epoch;
                view = view;
                parent = best.0;
                payload = c;
              }))))
              (sym
              (append_assoc notes (Note.Block c b ∷ [])
              (Note.Verified epoch view c ∷ [])))
              (vote_keeps r m notes (Note.Block c b ∷ Note.Verified epoch view c ∷ []) epoch
              view c best p pos top voted refl),
          tt,
        ),
      ),
    )

new_keeps : (r : Rules) (m : List Note → Meaning) (notes : List Note) (epoch view : ℕ)
    (payload : List ℕ) (best : ℕ × Commitment × Block)
    → IsParent r notes epoch view best → 0 < view → view < 2 ^ 64 - 1
    → has_voted notes epoch view ≡ false
    → EachAfter (KeepsBy r m) notes (propose_new r notes epoch view payload best)
new_keeps r m notes epoch view payload best p pos top voted =
    go (nat_lt b.height (2 ^ 64 - 1) && is_within r.epochs epoch b.height && r.accepts b best.2)
  where
    b : Block
    b =
        proposed_block r (record { epoch = epoch; view = view; parent = best.0; payload = best.1 })
        best.1 best.2 payload

    go : (ok : Bool)
        → EachAfter (KeepsBy r m) notes (cond ok (proposal_notes r notes epoch view best.0 b) [])
    go true = proposal_keeps r m notes epoch view best b p pos top voted
    go false = tt

over_keeps : (r : Rules) (m : List Note → Meaning) (notes : List Note) (epoch view : ℕ)
    (payload : List ℕ) (best : ℕ × Commitment × Block)
    → IsParent r notes epoch view best → 0 < view → view < 2 ^ 64 - 1
    → has_voted notes epoch view ≡ false
    → EachAfter (KeepsBy r m) notes (propose_over r notes epoch view payload best)
over_keeps r m notes epoch view payload best p pos top voted =
    go (nat_lt 0 best.0 && is_last r.epochs epoch best.2.height)
  where
    again : Note
    again =
        Note.Vote (Notarize (record {
          epoch = epoch;
          view = view;
          parent = best.0;
          payload = best.1;
        }))

    go : (last : Bool)
        → EachAfter (KeepsBy r m) notes
        (cond last (again ∷ []) (propose_new r notes epoch view payload best))
    go true = (
      subst (λ ns. KeepsBy r m ns again) (append-nil notes)
          (vote_keeps r m notes [] epoch view best.1 best p pos top voted refl),
      tt,
    )
    go false = new_keeps r m notes epoch view payload best p pos top voted

proposed_keeps : (r : Rules) (m : List Note → Meaning) (id : ℕ) (notes : List Note)
    (payload : List ℕ)
    → EachAfter (KeepsBy r m) notes (proposed r id notes payload)
proposed_keeps r m id notes payload =
    go
    (cases_Bool
    ((leader r.epochs epoch view == id) && nat_lt view (2 ^ 64 - 1)
    && not (has_voted notes epoch view)))
  where
    epoch : ℕ
    epoch = epoch_of notes

    view : ℕ
    view = view_of notes epoch

    made : List Note
    made =
        option_map_or (propose_over r notes epoch view payload) (best_parent r notes epoch view) []

    by_parent : view < 2 ^ 64 - 1 → has_voted notes epoch view ≡ false
        → (o : Option (ℕ × Commitment × Block)) → best_parent r notes epoch view ≡ o
        → EachAfter (KeepsBy r m) notes
        (option_map_or (propose_over r notes epoch view payload) o [])
    by_parent top voted None e = tt
    by_parent top voted (Some best) e =
        over_keeps r m notes epoch view payload best (parent_found r notes epoch view best e)
        (omega arith) top voted

    go : (((leader r.epochs epoch view == id) && nat_lt view (2 ^ 64 - 1)
        && not (has_voted notes epoch view))
        ≡ true)
        ⊎ (((leader r.epochs epoch view == id) && nat_lt view (2 ^ 64 - 1)
        && not (has_voted notes epoch view))
        ≡ false)
        → EachAfter (KeepsBy r m) notes
        (cond
        ((leader r.epochs epoch view == id) && nat_lt view (2 ^ 64 - 1)
        && not (has_voted notes epoch view))
        made [])
    go (inl t) =
        let a =
        and_parts ((leader r.epochs epoch view == id) && nat_lt view (2 ^ 64 - 1))
        (not (has_voted notes epoch view)) t in
        let b = and_parts (leader r.epochs epoch view == id) (nat_lt view (2 ^ 64 - 1)) a.0 in
        subst (EachAfter (KeepsBy r m) notes) (sym (cond-true _ made [] t))
        (by_parent (ltb-true view (2 ^ 64 - 1) b.1) (not-true (has_voted notes epoch view) a.1)
        (best_parent r notes epoch view) refl)
    go (inr f) = subst (EachAfter (KeepsBy r m) notes) (sym (cond-false _ made [] f)) tt

timeout_keeps : (r : Rules) (m : List Note → Meaning) (id : ℕ) (notes : List Note) (view : ℕ)
    → EachAfter (KeepsBy r m) notes (timed_out r id notes view)
timeout_keeps r m id notes view = go (cases_Bool test)
  where
    epoch : ℕ
    epoch = epoch_of notes

    test : Bool
    test =
        (view == view_of notes epoch) && nat_lt view (2 ^ 64 - 1) && is_member r.epochs epoch id
        && not (has_closed notes epoch view)

    note : List Note
    note = Note.Vote (Nullify epoch view) ∷ []

    go : (test ≡ true) ⊎ (test ≡ false) → EachAfter (KeepsBy r m) notes (cond test note [])
    go (inl t) =
        let a =
        and_parts
        ((view == view_of notes epoch) && nat_lt view (2 ^ 64 - 1)
        && is_member r.epochs epoch id)
        (not (has_closed notes epoch view)) t in
        let c =
        and_parts ((view == view_of notes epoch) && nat_lt view (2 ^ 64 - 1))
        (is_member r.epochs epoch id) a.0 in
        let b = and_parts (view == view_of notes epoch) (nat_lt view (2 ^ 64 - 1)) c.0 in
        let e = eqb-true view (view_of notes epoch) b.0 in
        let pos : nat_lt 0 view ≡ true = lt-ltb 0 view (omega arith) in
        subst (EachAfter (KeepsBy r m) notes) (sym (cond-true _ note [] t)) (
          (
            and_from (nat_lt 0 view) (nat_lt view (2 ^ 64 - 1)) pos b.1,
            not-true (has_closed notes epoch view) a.1,
          ),
          tt,
        )
    go (inr f) = subst (EachAfter (KeepsBy r m) notes) (sym (cond-false _ note [] f)) tt

-- a list of one note that may be there
if_keeps : (r : Rules) (m : List Note → Meaning) (notes : List Note) (note : Note) (b : Bool)
    → KeepsBy r m notes note → EachAfter (KeepsBy r m) notes (cond b (note ∷ []) [])
if_keeps r m notes note true k = (k, tt)
if_keeps r m notes note false k = tt

ack_keeps : (r : Rules) (m : List Note → Meaning) (notes : List Note) (o : Option ℕ)
    → EachAfter (KeepsBy r m) notes (option_map_or (λ h. Note.Ack h ∷ []) o [])
ack_keeps r m notes None = tt
ack_keeps r m notes (Some h) = (tt, tt)

-- the direct notes
pub direct_keeps : (r : Rules) (m : List Note → Meaning) (id : ℕ) (s : State) (e : Event)
    → EachAfter (KeepsBy r m) s.notes (direct r id s e)
direct_keeps r m id s (Event.Propose payload) = proposed_keeps r m id s.notes payload
direct_keeps r m id s (Event.Timeout view) = timeout_keeps r m id s.notes view
direct_keeps r m id s Event.Ack = ack_keeps r m s.notes (least (pending s))
direct_keeps r m id s (Event.Prune h) = if_keeps r m s.notes (Note.Prune h) _ tt
direct_keeps r m id s _ = tt

-- ---- the owed notes

sound_along : (r : Rules) (m : List Note → Meaning) (id : ℕ) → AreAlong r m id
    → (notes more : List Note) (xs : List Ballot) → AllByRecursion (IsSound (m notes)) xs
    → AllByRecursion (IsSound (m (notes ++ more))) xs
sound_along r m id along notes more [] a = tt
sound_along r m id along notes more (x ∷ xs) a =
    (along.grows notes more x a.0, sound_along r m id along notes more xs a.1)

pub settle_keeps : (r : Rules) (m : List Note → Meaning) (id : ℕ) → IsRising r → AreAlong r m id
    → (steps : ℕ) (s : State) → AllByRecursion (IsSound (m s.notes)) s.came.ballots
    → EachAfter (KeepsBy r m) s.notes (settle r id steps s)
settle_keeps r m id rising along zero s came = tt
settle_keeps r m id rising along (suc steps) s came =
    go (owed r id s) refl
    (λ note. settle_keeps r m id rising along steps (with_notes s (note ∷ []))
    (sound_along r m id along s.notes (note ∷ []) s.came.ballots came))
  where
    rest : Note → List Note
    rest note = settle r id steps (with_notes s (note ∷ []))

    go : (o : Option Note) → owed r id s ≡ o
        → ((note : Note) → EachAfter (KeepsBy r m) (s.notes ++ note ∷ []) (rest note))
        → EachAfter (KeepsBy r m) s.notes (option_map_or (λ note. note ∷ rest note) o [])
    go None e later = tt
    go (Some note) e later = (
      owed_keeps r (m s.notes) id s rising (along.closed s.notes) (record {
        came = came;
        own = along.own s.notes;
      }) note e,
      later note,
    )

-- all notes of a step
pub step_keeps : (r : Rules) (m : List Note → Meaning) (id : ℕ) → IsRising r → AreAlong r m id
    → (s : State) (e : Event) → AllByRecursion (IsSound (m s.notes)) s.came.ballots
    → EachAfter (KeepsBy r m) s.notes (step_notes r id s e)
step_keeps r m id rising along s e came =
    let first = direct r id s e in
    let after = with_notes s first in
    each_append (KeepsBy r m) s.notes first (settle r id (marks after) after)
    (direct_keeps r m id s e)
    (settle_keeps r m id rising along (marks after) after
    (sound_along r m id along s.notes first s.came.ballots came))
