-- How often a place is had by the calls of a list, and tests of calls.
use Rattle.std.proofs.Common.{◌≡◌, ◌+◌, ◌<◌, ℕ, Bool, true, false, not, ◌&&◌, ◌||◌, ◌==◌, List, [], ◌∷◌, length, sum_by, count_by, refl, sym, arith, cond, eq-eqb, ap, suc, zero}
use Rattle.std.specs.Prelude.{slice_get, Some, nat_lt, if◌then◌else◌}
use Rattle.std.specs.List.{list_all}
use Rattle.std.proofs.lemmas.List.Sums.{sum_by-append}
use Rattle.std.proofs.lemmas.Bool.Decides.{nat_tests}
use Rattle.std.proofs.lemmas.Bool.{and_from, and_parts}
use Rattle.mailbox.specs.declared.call.Call.{Call}
use Rattle.mailbox.specs.Calls.{none_at, rises_at, holds_in, times_in, calls_at}

pub sum_cons : {A : Type 0} (f : A → ℕ) (x : A) (xs : List A)
    → sum_by f (x ∷ xs) ≡ f x + sum_by f xs
sum_cons f x xs = omega (arith, sum_by-append f (x ∷ []) xs)

pub itself : (k : ℕ) → (k == k) ≡ true
itself k = eq-eqb k k refl

pub is_same : (j k : ℕ) → (j == k) ≡ true → j ≡ k
is_same j k h = grind (arith, nat_tests)

pub is_less : (k n : ℕ) → nat_lt k n ≡ true → k < n
is_less k n h = grind (arith, nat_tests)

-- each place of a list is read
pub read_at : {X : Type 0} (xs : List X) (k : ℕ) → k < length xs
    → (x : X) × (slice_get xs k ≡ Some x)
read_at [] k h = absurd (omega arith)
read_at (x ∷ xs) zero h = (x, refl)
read_at (x ∷ xs) (suc k) h = read_at xs k (omega arith)

-- how many calls have a place, behind one more
pub times_cons : {T E R : Type 0} (k : ℕ) (c : Call T E R) (cs : List (Call T E R))
    → times_in k (c ∷ cs) ≡ cond (c.place == k) 1 0 + times_in k cs
times_cons k c cs = sum_cons (λ d. cond (d.place == k) 1 0) c cs

-- where a place isn't had, it is had no times, and all that is asked of its calls holds
pub none_times : {T E R : Type 0} (k : ℕ) (cs : List (Call T E R)) → none_at k cs ≡ true
    → times_in k cs ≡ 0
none_times k [] h = refl
none_times k (c ∷ cs) h =
    let rest : times_in k cs ≡ 0 =
    none_times k cs (and_parts (not (c.place == k)) (none_at k cs) h).1 in
    omega (
      arith,
      times_cons k c cs,
      rest,
      unlike (c.place == k) (and_parts (not (c.place == k)) (none_at k cs) h).0,
    )
  where
    unlike : (b : Bool) → not b ≡ true → ◌≡◌ {A = ℕ} (cond b 1 0) 0
    unlike true h = let e : false ≡ true = h in cc
    unlike false h = refl

pub some_times : {T E R : Type 0} (k : ℕ) (cs : List (Call T E R)) → none_at k cs ≡ false
    → 0 < times_in k cs
some_times k [] h = let e : true ≡ false = h in cc
some_times k (c ∷ cs) h = step (c.place == k) h (times_cons k c cs) (some_times k cs)
  where
    step : (b : Bool) → (not b && none_at k cs) ≡ false
        → times_in k (c ∷ cs) ≡ cond b 1 0 + times_in k cs
        → (none_at k cs ≡ false → 0 < times_in k cs) → 0 < times_in k (c ∷ cs)
    step true h is rest = omega (arith, is)
    step false h is rest = omega (arith, is, rest h)

pub none_all : {T E R : Type 0} (is_it : Call T E R → Bool) (k : ℕ) (cs : List (Call T E R))
    → none_at k cs ≡ true
    → list_all (λ c. not (c.place == k) || is_it c) cs ≡ true
none_all is_it k [] h = refl
none_all {T} {E} {R} is_it k (c ∷ cs) h =
    let other : not (c.place == k) ≡ true = (and_parts (not (c.place == k)) (none_at k cs) h).0 in
    let rest : none_at k cs ≡ true = (and_parts (not (c.place == k)) (none_at k cs) h).1 in
    and_from (not (c.place == k) || is_it c)
    (list_all (λ (d : Call T E R). not (d.place == k) || is_it d) cs) (either other)
    (none_all is_it k cs rest)
  where
    either : not (c.place == k) ≡ true → (not (c.place == k) || is_it c) ≡ true
    either other = rw other refl

pub none_rises : {T E R : Type 0} (k : ℕ) (cs : List (Call T E R)) → none_at k cs ≡ true
    → rises_at k cs ≡ true
none_rises k [] h = refl
none_rises k (c ∷ cs) h =
    let rest = (and_parts (not (c.place == k)) (none_at k cs) h).1 in
    elim (nat_lt k c.place) as (λ b. (if b then none_at k cs else rises_at k cs) ≡ true) [
      | true ↦ rest
      | false ↦ none_rises k cs rest
    ]

pub none_holds : {T E R : Type 0} (is_it : Call T E R → Bool) (k : ℕ) (cs : List (Call T E R))
    → none_at k cs ≡ true
    → holds_in is_it k cs ≡ true
none_holds is_it k cs h =
    and_from (list_all (λ c. not (c.place == k) || is_it c) cs) (rises_at k cs)
    (none_all is_it k cs h) (none_rises k cs h)
