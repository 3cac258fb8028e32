-- What was verified last in each round, as notes come and go.
use Rattle.std.proofs.Common.{◌≡◌, ◌⊎◌, inl, inr, ℕ, ◌&&◌, ◌==◌, Bool, true, false, cond, eqb-true, refl, sym, ◌∙◌, ap, List, [], ◌∷◌, ◌++◌, Option, Some, None, if◌then◌else◌}
use Rattle.std.specs.Cmp.{IsTotalOrder, nat_cmp_total, on_total, then_total, unsigned_ties}
use Rattle.std.specs.List.{filter_map, last_or}
use Rattle.std.specs.Map.{lookup}
use Rattle.std.specs.Option.{option_map_or, option_or}
use Rattle.std.specs.Ordering.{is_eq, nat_cmp, on, ordering_then, then_cmp}
use Rattle.std.specs.declared.cmp.Ordering.{Ordering}
use Rattle.std.specs.declared.cmp.Ordering.TheVariants.{Less, Equal, Greater}
use Rattle.std.proofs.lemmas.Bool.{and_parts, cases_Bool, cond-false, cond-true}
use Rattle.std.proofs.lemmas.Cmp.{eq_by_cmp_equiv}
use Rattle.cw_types.specs.declared.commitment.Commitment.{Commitment}
use Rattle.cw_types.specs.declared.note.Note.{Note}
use Rattle.cw_types.specs.declared.round.Round.{Round}
use Rattle.cw_rules.proofs.Lists.{filter_map_more}
use Rattle.note_scans.specs.Verified.{verified_in}
use Rattle.marshal.specs.Rounds.{HasVerified, same_round}
use Rattle.std.proofs.lemmas.List.{append-nil}

-- the order that is derived: epoch, view
abbrev pub round_cmp : Round → Round → Ordering
round_cmp = then_cmp (on (λ r. r.epoch) nat_cmp) (on (λ r. r.view) nat_cmp)

both_equal : (p q : Ordering) → is_eq (ordering_then p q) ≡ (is_eq p && is_eq q)
both_equal Less q = refl
both_equal Equal q = refl
both_equal Greater q = refl

pub rounds_tie : (a b : Round) → same_round a b ≡ is_eq (round_cmp a b)
rounds_tie a b =
    ap (λ (x : Bool). x && (a.view == b.view)) (unsigned_ties a.epoch b.epoch)
    ∙ (ap (λ (y : Bool). is_eq (nat_cmp a.epoch b.epoch) && y) (unsigned_ties a.view b.view)
    ∙ sym (both_equal (nat_cmp a.epoch b.epoch) (nat_cmp a.view b.view)))

abbrev pub Entries : Type 0
Entries = List (Round × Commitment)

-- the last of one more
last_with : {X : Type 0} (o : Option X) (xs : List X) (x : X) → last_or o (xs ++ x ∷ []) ≡ Some x
last_with o [] x = refl
last_with o (y ∷ ys) x = last_with (Some y) ys x

-- the last that is verified in a round, with one note more
pub verified_more : (r : Round) (notes : List Note) (note : Note)
    → last_or None (filter_map (verified_in r) (notes ++ note ∷ []))
    ≡ option_or (verified_in r note) (last_or None (filter_map (verified_in r) notes))
verified_more r notes note =
    ap (last_or None) (filter_map_more (verified_in r) notes note) ∙ go (verified_in r note)
  where
    go : (o : Option Commitment)
        → last_or None (filter_map (verified_in r) notes ++ option_map_or (λ c. c ∷ []) o [])
        ≡ option_or o (last_or None (filter_map (verified_in r) notes))
    go None = ap (last_or None) (append-nil (filter_map (verified_in r) notes))
    go (Some c) = last_with None (filter_map (verified_in r) notes) c

rounds_ordered : IsTotalOrder round_cmp
rounds_ordered =
    then_total (on_total (λ (r : Round). r.epoch) nat_cmp_total)
    (on_total (λ (r : Round). r.view) nat_cmp_total)

pub same_round_symm : (a b : Round) → same_round a b ≡ same_round b a
same_round_symm a b =
    rounds_tie a b ∙ ((eq_by_cmp_equiv rounds_ordered).symm a b ∙ sym (rounds_tie b a))

same_round-true : (a b : Round) → same_round a b ≡ true → a ≡ b
same_round-true a b h =
    let p = and_parts (a.epoch == b.epoch) (a.view == b.view) h in
    let e = eqb-true a.epoch b.epoch p.0 in
    let f = eqb-true a.view b.view p.1 in
    λ i. record { epoch = e i; view = f i }

-- what a note of a round says of another
of_round : (q key : Round) (c : Commitment)
    → verified_in q (Note.Verified key.epoch key.view c)
    ≡ (if same_round q key then Some c else None)
of_round q key c =
    ap (λ b. if b then Some c else None) (same_round_symm key q)

module _ (old new : Entries) (notes : List Note) (key : Round) (c : Commitment) where
  -- a note of the round at the end
  pub verified_put : HasVerified old notes
      → ((q : Round) → lookup (same_round q) new
      ≡ cond (same_round q key) (Some c) (lookup (same_round q) old))
      → HasVerified new (notes ++ Note.Verified key.epoch key.view c ∷ [])
  verified_put has sets q =
      sets q
      ∙ (ap (λ (o : Option Commitment). cond (same_round q key) (Some c) o) (has q)
      ∙ (go (same_round q key)
      ∙ sym
      (verified_more q notes (Note.Verified key.epoch key.view c)
      ∙ ap (λ o. option_or o (last_or None (filter_map (verified_in q) notes)))
      (of_round q key c))))
    where
      go : (b : Bool)
          → cond b (Some c) (last_or None (filter_map (verified_in q) notes))
          ≡ option_or (if b then Some c else None)
          (last_or None (filter_map (verified_in q) notes))
      go true = refl
      go false = refl

  -- the round is there, where the last note is of it
  pub verified_there : HasVerified old (notes ++ Note.Verified key.epoch key.view c ∷ [])
      → lookup (same_round key) old ≡ Some c
  verified_there has =
      has key
      ∙ (verified_more key notes (Note.Verified key.epoch key.view c)
      ∙ (ap (λ o. option_or o (last_or None (filter_map (verified_in key) notes)))
      (of_round key key c)
      ∙ ap
      (λ b. option_or (if b then Some c else None)
      (last_or None (filter_map (verified_in key) notes)))
      (rounds_tie key key ∙ (eq_by_cmp_equiv rounds_ordered).refl key)))

  -- without it, where what is left says this of the round
  pub verified_less : (w : Option Commitment)
      → HasVerified old (notes ++ Note.Verified key.epoch key.view c ∷ [])
      → w ≡ last_or None (filter_map (verified_in key) notes)
      → ((q : Round) → lookup (same_round q) new
      ≡ cond (same_round q key) w (lookup (same_round q) old))
      → HasVerified new notes
  verified_less w has is sets q = sets q ∙ go (cases_Bool (same_round q key))
    where
      left : Option Commitment
      left = last_or None (filter_map (verified_in q) notes)

      was : lookup (same_round q) old ≡ option_or (if same_round q key then Some c else None) left
      was =
          has q
          ∙ (verified_more q notes (Note.Verified key.epoch key.view c)
          ∙ ap (λ o. option_or o left) (of_round q key c))

      go : (same_round q key ≡ true) ⊎ (same_round q key ≡ false)
          → cond (same_round q key) w (lookup (same_round q) old) ≡ left
      go (inl t) =
          let same : q ≡ key = same_round-true q key t in
          cond-true (same_round q key) w _ t
          ∙ (is ∙ ap (λ (k : Round). last_or None (filter_map (verified_in k) notes)) (sym same))
      go (inr f) =
          cond-false (same_round q key) w _ f
          ∙ (was ∙ ap (λ b. option_or (if b then Some c else None) left) f)

-- a note that is of no round
pub verified_same : (es : Entries) (notes : List Note) (note : Note)
    → ((q : Round) → verified_in q note ≡ None) → HasVerified es notes
    → HasVerified es (notes ++ note ∷ [])
verified_same es notes note none has q =
    has q
    ∙ sym
    (verified_more q notes note
    ∙ ap (λ o. option_or o (last_or None (filter_map (verified_in q) notes))) (none q))

pub verified_stays : (es : Entries) (notes : List Note) (note : Note)
    → ((q : Round) → verified_in q note ≡ None) → HasVerified es (notes ++ note ∷ [])
    → HasVerified es notes
verified_stays es notes note none has q =
    has q
    ∙ (verified_more q notes note
    ∙ ap (λ o. option_or o (last_or None (filter_map (verified_in q) notes))) (none q))

pub none_verified : (note : Note)
    → ((e v : ℕ) (c : Commitment) → note ≡ Note.Verified e v c → ⊥) → (q : Round)
    → verified_in q note ≡ None
none_verified (Note.Verified e v c) isnt q = absurd (isnt e v c refl)
none_verified (Note.Block c b) isnt q = refl
none_verified (Note.Certified p) isnt q = refl
none_verified (Note.Vote v) isnt q = refl
none_verified (Note.Cert s) isnt q = refl
none_verified (Note.Ack h) isnt q = refl
none_verified (Note.Floor h) isnt q = refl
none_verified (Note.Prune h) isnt q = refl
none_verified (Note.Epoch e c) isnt q = refl
