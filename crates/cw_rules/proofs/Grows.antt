-- Members whose notes grow: what stood stands.
use Rattle.std.proofs.Common.{◌≡◌, ◌==◌, ℕ, zero, suc, ◌+◌, ◌≤◌, Bool, true, false, nat_le, List, [], ◌∷◌, ◌++◌, Some, None, IsTrue, length, count_by, slice_get, slice_set, refl, sym, ap, subst, inl, inr, ◌⊎◌, arith, append-nil, leb-true, le-leb}
use Rattle.std.specs.List.{AllByRecursion}
use Rattle.std.proofs.lemmas.Bool.{and_parts, and_from, or_cases, eqb-true, false≢true, cases_eq}
use Rattle.cw_types.specs.declared.note.Note.{Note}
use Rattle.cw_types.specs.declared.vote.Vote.{Vote}
use Rattle.cw_types.specs.Epochs.{Epochs, members_in, rises_from, size}
use Rattle.cw_types.specs.Numbers.{quorum}
use Rattle.cw_types.specs.Votes.{vote_epoch}
use Rattle.cw_rules.specs.Accepted.{Ballot, Many, Single}
use Rattle.cw_rules.specs.Keeps.{IsClosed, IsRising, IsSound, Keeps, meaning}
use Rattle.cw_rules.specs.Notes.{has_vote, is_vote}
use Rattle.cw_rules.specs.Rules.{Rules}
use Rattle.cw_rules.specs.Stands.{EachAfter, Members, Stands, backs_at, is_faulty_at}
use Rattle.cw_rules.proofs.Lists.{is_in, in_rising, rises_lower, counts_as, count-cons}
use Rattle.cw_rules.proofs.NoteLemmas.{any_front, each_weaker}

-- the same members, each honest one with its notes and maybe more
abbrev pub Grows : Members → Members → Type 0
Grows [] [] = Unit {0}
Grows (None ∷ xs) (None ∷ ys) = Grows xs ys
Grows (Some a ∷ xs) (Some b ∷ ys) = ((more : List Note) × (b ≡ a ++ more)) × Grows xs ys
Grows _ _ = ⊥

pub Grows_same : (xs : Members) → Grows xs xs
Grows_same [] = tt
Grows_same (None ∷ xs) = Grows_same xs
Grows_same (Some a ∷ xs) = (([], sym (append-nil a)), Grows_same xs)

pub Grows_length : (xs ys : Members) → Grows xs ys → length xs ≡ length ys
Grows_length [] [] g = refl
Grows_length (None ∷ xs) (None ∷ ys) g = ap suc (Grows_length xs ys g)
Grows_length (Some a ∷ xs) (Some b ∷ ys) g = ap suc (Grows_length xs ys g.1)
Grows_length [] (y ∷ ys) g = absurd g
Grows_length (None ∷ xs) [] g = absurd g
Grows_length (Some a ∷ xs) [] g = absurd g
Grows_length (None ∷ xs) (Some b ∷ ys) g = absurd g
Grows_length (Some a ∷ xs) (None ∷ ys) g = absurd g

one_le : (b c : Bool) → (b ≡ true → c ≡ true) → counts_as b ≤ counts_as c
unfolding counts_as
one_le true c f = let e : counts_as c ≡ 1 = ap counts_as (f refl) in omega arith
one_le false c f = omega arith

-- more numbers pass a weaker test
pub count_more : (p q : ℕ → Bool) → ((i : ℕ) → p i ≡ true → q i ≡ true) → (is : List ℕ)
    → count_by p is ≤ count_by q is
count_more p q f [] = omega arith
count_more p q f (i ∷ is) =
    omega (
      arith,
      count_more p q f is,
      count-cons p i is,
      count-cons q i is,
      one_le (p i) (q i) (f i),
    )

pub Grows_backs : (i : ℕ) (v : Vote) (xs ys : Members) → Grows xs ys → backs_at xs v i ≡ true
    → backs_at ys v i ≡ true
Grows_backs i v [] [] g h = h
Grows_backs zero v (None ∷ xs) (None ∷ ys) g h = refl
Grows_backs zero v (Some a ∷ xs) (Some b ∷ ys) g h =
    subst (λ ns. has_vote ns v ≡ true) (sym g.0.1) (any_front (is_vote v) a g.0.0 h)
Grows_backs (suc i) v (None ∷ xs) (None ∷ ys) g h = Grows_backs i v xs ys g h
Grows_backs (suc i) v (Some a ∷ xs) (Some b ∷ ys) g h = Grows_backs i v xs ys g.1 h
Grows_backs i v [] (y ∷ ys) g h = absurd g
Grows_backs i v (None ∷ xs) [] g h = absurd g
Grows_backs i v (Some a ∷ xs) [] g h = absurd g
Grows_backs i v (None ∷ xs) (Some b ∷ ys) g h = absurd g
Grows_backs i v (Some a ∷ xs) (None ∷ ys) g h = absurd g

pub Grows_holds : (x : Epochs) (v : Vote) (xs ys : Members) → Grows xs ys
    → (meaning x xs).holds v ≡ true → (meaning x ys).holds v ≡ true
Grows_holds x v xs ys g h =
    le-leb (quorum (size x (vote_epoch v))) (count_by (backs_at ys v) (members_in x (vote_epoch v)))
    (omega (
      arith,
      leb-true (quorum (size x (vote_epoch v)))
          (count_by (backs_at xs v) (members_in x (vote_epoch v))) h,
      count_more (backs_at xs v) (backs_at ys v) (λ i. Grows_backs i v xs ys g)
          (members_in x (vote_epoch v)),
    ))

pub Grows_keeps : (r : Rules) (xs ys : Members) → Grows xs ys → (before notes : List Note)
    → EachAfter (Keeps r (meaning r.epochs xs)) before notes
    → EachAfter (Keeps r (meaning r.epochs ys)) before notes
Grows_keeps r xs ys g before notes e =
    each_weaker (Keeps r (meaning r.epochs xs)) (Keeps r (meaning r.epochs ys)) each before notes e
  where
    each : (b : List Note) (n : Note) → Keeps r (meaning r.epochs xs) b n
        → Keeps r (meaning r.epochs ys) b n
    each b (Note.Cert s) k = Grows_holds r.epochs s.vote xs ys g k
    each b (Note.Vote v) k = by_vote v k
      where
        by_vote : (w : Vote) → Keeps r (meaning r.epochs xs) b (Note.Vote w)
            → Keeps r (meaning r.epochs ys) b (Note.Vote w)
        by_vote (Vote.Notarize p) k = k
        by_vote (Vote.Nullify epoch view) k = k
        by_vote (Vote.Finalize p) k = k
    each b _ k = k

pub Grows_sound_one : (x : Epochs) (xs ys : Members) → Grows xs ys → (b : Ballot)
    → IsSound (meaning x xs) b → IsSound (meaning x ys) b
Grows_sound_one x xs ys g (Single i v) a = (a.0, Grows_backs i v xs ys g a.1)
Grows_sound_one x xs ys g (Many s) a = Grows_holds x s.vote xs ys g a

pub Grows_sound : (x : Epochs) (xs ys : Members) → Grows xs ys → (ballots : List Ballot)
    → AllByRecursion (IsSound (meaning x xs)) ballots
    → AllByRecursion (IsSound (meaning x ys)) ballots
Grows_sound x xs ys g [] a = tt
Grows_sound x xs ys g (b ∷ bs) a = (Grows_sound_one x xs ys g b a.0, Grows_sound x xs ys g bs a.1)

-- one member's notes grow
pub Grows_set : (i : ℕ) (xs : Members) (a more : List Note) → slice_get xs i ≡ Some (Some a)
    → Grows xs (slice_set xs i (Some (a ++ more)))
Grows_set i [] a more h = tt
Grows_set zero (None ∷ xs) a more h = cc
Grows_set zero (Some b ∷ xs) a more h =
    let e : b ≡ a = cc in ((more, ap (λ ns. ns ++ more) (sym e)), Grows_same xs)
Grows_set (suc i) (None ∷ xs) a more h = Grows_set i xs a more h
Grows_set (suc i) (Some b ∷ xs) a more h = (([], sym (append-nil b)), Grows_set i xs a more h)

-- the same are faulty
pub Grows_faulty : (i : ℕ) (xs ys : Members) → Grows xs ys → is_faulty_at ys i ≡ true
    → is_faulty_at xs i ≡ true
Grows_faulty i [] [] g h = h
Grows_faulty zero (None ∷ xs) (None ∷ ys) g h = refl
Grows_faulty zero (Some a ∷ xs) (Some b ∷ ys) g h = h
Grows_faulty (suc i) (None ∷ xs) (None ∷ ys) g h = Grows_faulty i xs ys g h
Grows_faulty (suc i) (Some a ∷ xs) (Some b ∷ ys) g h = Grows_faulty i xs ys g.1 h
Grows_faulty i [] (y ∷ ys) g h = absurd g
Grows_faulty i (None ∷ xs) [] g h = absurd g
Grows_faulty i (Some a ∷ xs) [] g h = absurd g
Grows_faulty i (None ∷ xs) (Some b ∷ ys) g h = absurd g
Grows_faulty i (Some a ∷ xs) (None ∷ ys) g h = absurd g

-- ---- signers that rise are counted

counted : (p : ℕ → Bool) (i : ℕ) (is : List ℕ) (n : ℕ) → p i ≡ true → n ≤ count_by p is
    → suc n ≤ count_by p (i ∷ is)
unfolding counts_as
counted p i is n t le =
    let e : counts_as (p i) ≡ 1 = ap counts_as t in omega (arith, count-cons p i is, e)

-- what rises from above x, and is among x and more, is among these
past : (x : ℕ) (xs signers : List ℕ) (p : ℕ → Bool) → rises_from (x + 1) signers ≡ true
    → AllByRecursion (λ i. IsTrue (is_in (x ∷ xs) i) × (p i ≡ true)) signers
    → AllByRecursion (λ i. IsTrue (is_in xs i) × (p i ≡ true)) signers
past x xs [] p u a = tt
past x xs (i ∷ rest) p u a =
    let q = and_parts (nat_le (x + 1) i) (rises_from (i + 1) rest) u in (
      (here (or_cases (x == i) (is_in xs i) a.0.0) (leb-true (x + 1) i q.0), a.0.1),
      past x xs rest p
          (rises_lower (x + 1) (i + 1) rest (omega (arith, leb-true (x + 1) i q.0)) q.1) a.1,
    )
  where
    here : ((x == i) ≡ true) ⊎ (is_in xs i ≡ true) → x + 1 ≤ i → is_in xs i ≡ true
    here (inl e) le = absurd (omega (arith, eqb-true x i e))
    here (inr e) le = e

pub count_signers : (p : ℕ → Bool) (low : ℕ) (xs signers : List ℕ) → rises_from low xs ≡ true
    → rises_from low signers ≡ true
    → AllByRecursion (λ i. IsTrue (is_in xs i) × (p i ≡ true)) signers
    → length signers ≤ count_by p xs
count_signers p low xs [] u w a = omega arith
count_signers p low [] (i ∷ rest) u w a = absurd (false≢true a.0.0)
count_signers p low (x ∷ xs) (i ∷ rest) u w a =
    go (and_parts (nat_le low x) (rises_from (x + 1) xs) u)
    (and_parts (nat_le low i) (rises_from (i + 1) rest) w) (cases_eq x i)
    (count_signers p (x + 1) xs)
  where
    go : (nat_le low x ≡ true) × (rises_from (x + 1) xs ≡ true)
        → (nat_le low i ≡ true) × (rises_from (i + 1) rest ≡ true) → (x ≡ i) ⊎ (x ≡ i → ⊥)
        → ((signers : List ℕ) → rises_from (x + 1) xs ≡ true → rises_from (x + 1) signers ≡ true
        → AllByRecursion (λ i. IsTrue (is_in xs i) × (p i ≡ true)) signers
        → length signers ≤ count_by p xs)
        → length (i ∷ rest) ≤ count_by p (x ∷ xs)
    go (l, u') (m, w') (inl e) later =
        let w'' : rises_from (x + 1) rest ≡ true =
        subst (λ j. rises_from (j + 1) rest ≡ true) (sym e) w' in
        counted p x xs (length rest) (subst (λ j. p j ≡ true) (sym e) a.0.1)
        (later rest u' w'' (past x xs rest p w'' a.1))
    go (l, u') (m, w') (inr ne) later =
        let there : is_in xs i ≡ true = by_head (or_cases (x == i) (is_in xs i) a.0.0) in
        let w'' : rises_from (x + 1) (i ∷ rest) ≡ true =
        and_from (nat_le (x + 1) i) (rises_from (i + 1) rest)
        (le-leb (x + 1) i (in_rising (x + 1) i xs u' there)) w' in
        let n = later (i ∷ rest) u' w'' (past x xs (i ∷ rest) p w'' a) in
        omega (arith, count-cons p x xs, n)
      where
        by_head : ((x == i) ≡ true) ⊎ (is_in xs i ≡ true) → is_in xs i ≡ true
        by_head (inl e) = absurd (ne (eqb-true x i e))
        by_head (inr e) = e

-- a vote that a quorum signed holds
pub meaning_closed : (r : Rules) (members : Members) → IsRising r
    → IsClosed r (meaning r.epochs members)
meaning_closed r members rising v signers rise each enough =
    le-leb (quorum (size r.epochs (vote_epoch v)))
    (count_by (backs_at members v) (members_in r.epochs (vote_epoch v)))
    (omega (
      arith,
      enough,
      count_signers (backs_at members v) 0 (members_in r.epochs (vote_epoch v)) signers
          (rising (vote_epoch v)) rise each,
    ))

-- what holds stands
pub holds_stands : (x : Epochs) (members : Members) (v : Vote) → (meaning x members).holds v ≡ true
    → Stands x members v
holds_stands x members v h =
    leb-true (quorum (size x (vote_epoch v)))
    (count_by (backs_at members v) (members_in x (vote_epoch v))) h

-- what stood stands
pub Grows_stands : (x : Epochs) (v : Vote) (xs ys : Members) → Grows xs ys → Stands x xs v
    → Stands x ys v
Grows_stands x v xs ys g h =
    omega (
      arith,
      h,
      count_more (backs_at xs v) (backs_at ys v) (λ i. Grows_backs i v xs ys g)
          (members_in x (vote_epoch v)),
    )
