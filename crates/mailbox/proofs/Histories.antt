-- A history is the calls of all lists exactly where each place of it holds.
use Rattle.std.proofs.Common.{◌≡◌, ◌+◌, ◌<◌, ◌≤◌, ◌∙◌, ℕ, zero, suc, Bool, true, false, not, ◌&&◌, ◌||◌, ◌==◌, List, [], ◌∷◌, ◌++◌, length, sum_by, count_by, refl, sym, subst, ap, arith, add-one, cond}
use Rattle.std.specs.Option.{option_map_or}
use Rattle.std.specs.Prelude.{Option, None, slice_get, Some, nat_lt, if◌then◌else◌}
use Rattle.std.specs.List.{list_all}
use Rattle.std.proofs.lemmas.List.Sums.{count_by-le-length, sum_by-append}
use Rattle.std.proofs.lemmas.Bool.Decides.{nat_tests}
use Rattle.std.proofs.lemmas.Bool.{and_from, and_parts}
use Rattle.mailbox.specs.declared.call.Call.{Call}
use Rattle.mailbox.specs.Calls.{AreCalls, Each, calls_in, IsEntryAt, IsFirstFault, Rises, holds_at, holds_in, none_at, place_holds, rises_at, calls_at, times_in}
use Rattle.mailbox.proofs.PlacesHad.{is_less, is_same, itself, none_rises, read_at, sum_cons, times_cons}

sum_split : {A : Type 0} (f g h : A → ℕ) (e : (x : A) → f x ≡ g x + h x) (xs : List A)
    → sum_by f xs ≡ sum_by g xs + sum_by h xs
sum_split f g h e [] = omega arith
sum_split f g h e (x ∷ xs) =
    omega (arith, sum_cons f x xs, sum_cons g x xs, sum_cons h x xs, e x, sum_split f g h e xs)

sum_le : {A : Type 0} (f g : A → ℕ) (e : (x : A) → f x ≤ g x) (xs : List A)
    → sum_by f xs ≤ sum_by g xs
sum_le f g e [] = omega arith
sum_le f g e (x ∷ xs) = omega (arith, sum_cons f x xs, sum_cons g x xs, e x, sum_le f g e xs)

sum_none : {A : Type 0} (f : A → ℕ) (e : (x : A) → f x ≡ 0) (xs : List A) → sum_by f xs ≡ 0
sum_none f e [] = omega arith
sum_none f e (x ∷ xs) = omega (arith, sum_cons f x xs, e x, sum_none f e xs)

-- two sums are equal only where the parts are
sum_same : {A : Type 0} (f g : A → ℕ) (e : (x : A) → f x ≤ g x) (xs : List A)
    → sum_by g xs ≤ sum_by f xs → Each (λ x. f x ≡ g x) xs
sum_same f g e [] h = tt
sum_same f g e (x ∷ xs) h = (
  omega (arith, sum_cons f x xs, sum_cons g x xs, e x, sum_le f g e xs),
  sum_same f g e xs (omega (arith, sum_cons f x xs, sum_cons g x xs, e x, sum_le f g e xs)),
)

-- all pass where as many pass as there are
count_whole : {A : Type 0} (p : A → Bool) (xs : List A) → count_by p xs ≡ length xs
    → Each (λ x. p x ≡ true) xs
count_whole p [] h = tt
count_whole p (x ∷ xs) h =
    count_whole_step p x xs (p x) refl (count_by-le-length p xs)
    (sym (sum_cons (λ y. cond (p y) 1 0) x xs) ∙ h) (count_whole p xs)
  where
    count_whole_step : {A : Type 0} (p : A → Bool) (x : A) (xs : List A) (b : Bool) → p x ≡ b
        → count_by p xs ≤ length xs → cond b 1 0 + count_by p xs ≡ suc (length xs)
        → (count_by p xs ≡ length xs → Each (λ x. p x ≡ true) xs)
        → (p x ≡ true) × Each (λ x. p x ≡ true) xs
    count_whole_step p x xs true is most h rest = (is, rest (omega arith))
    count_whole_step p x xs false is most h rest = absurd (omega arith)

each_map : {A : Type 0} (P Q : A → Type 0) (xs : List A) → ((x : A) → P x → Q x) → Each P xs
    → Each Q xs
each_map P Q [] f h = tt
each_map P Q (x ∷ xs) f h = (f x h.0, each_map P Q xs f h.1)

-- how many calls of a list have a place below n
below : {T E R : Type 0} → ℕ → List (Call T E R) → ℕ
below n cs = count_by (λ c. nat_lt c.place n) cs

below_one : (k n : ℕ) → cond (nat_lt k (n + 1)) 1 0 ≡ cond (nat_lt k n) 1 0 + cond (k == n) 1 0
below_one k n = grind (arith, nat_tests)

below_nothing : (k : ℕ) → ◌≡◌ {A = ℕ} (cond (nat_lt k 0) 1 0) 0
below_nothing k = grind (arith, nat_tests)

below_more : {T E R : Type 0} (n : ℕ) (lists : List (List (Call T E R)))
    → sum_by (below (n + 1)) lists ≡ sum_by (below n) lists + calls_at n lists
unfolding below
below_more n lists =
    sum_split (below (n + 1)) (below n) (times_in n)
    (λ cs. sum_split (λ c. cond (nat_lt c.place (n + 1)) 1 0) (λ c. cond (nat_lt c.place n) 1 0)
    (λ c. cond (c.place == n) 1 0) (λ c. below_one c.place n) cs)
    lists

-- where each place below n is had once, n calls have a place below it
below_once : {T E R : Type 0} (n : ℕ) (lists : List (List (Call T E R)))
    → ((k : ℕ) → k < n → calls_at k lists ≡ 1) → sum_by (below n) lists ≡ n
unfolding below
below_once zero lists once =
    sum_none (below 0)
    (λ cs. sum_none (λ c. cond (nat_lt c.place 0) 1 0) (λ c. below_nothing c.place) cs) lists
below_once (suc n) lists once =
    let before = below_once n lists (λ k less. once k (omega arith)) in
    let more : sum_by (below (n + 1)) lists ≡ sum_by (below n) lists + calls_at n lists =
    below_more n lists in
    rw (← add-one) (omega (arith, before, more, once n (omega arith)))

-- no call has a place past the history
all_below : {T E R : Type 0} (n : ℕ) (lists : List (List (Call T E R)))
    → ((k : ℕ) → k < n → calls_at k lists ≡ 1) → sum_by (λ cs. length cs) lists ≡ n
    → Each (Each (λ c. nat_lt c.place n ≡ true)) lists
unfolding below
all_below n lists once many =
    let same =
    sum_same (below n) (λ cs. length cs) (λ cs. count_by-le-length (λ c. nat_lt c.place n) cs)
    lists (omega (arith, below_once n lists once, many)) in
    each_map (λ cs. below n cs ≡ length cs) (Each (λ c. nat_lt c.place n ≡ true)) lists
    (λ cs. count_whole (λ c. nat_lt c.place n) cs) same

holds_some : {X : Type 0} (f : X → Bool) (o : Option X) → option_map_or f o false ≡ true
    → (x : X) × (o ≡ Some x) × (f x ≡ true)
holds_some f (Some x) h = (x, refl, h)
holds_some f None h = let e : false ≡ true = h in cc

own_is : (k : ℕ) (b : Bool) → (not (k == k) || b) ≡ true → b ≡ true
own_is k b h = let e = itself k in rw e at h

-- each call of one list is the entry at its place
entries_in : {T E R X : Type 0} (same : X → Call T E R → Bool) (history : List X) (n : ℕ)
    (cs : List (Call T E R))
    → ((k : ℕ) → k < n
    → (x : X) × (slice_get history k ≡ Some x)
    × (list_all (λ c. not (c.place == k) || same x c) cs ≡ true))
    → Each (λ c. nat_lt c.place n ≡ true) cs → Each (IsEntryAt same history) cs
entries_in same history n [] holds low = tt
entries_in same history n (c ∷ cs) holds low =
    let here = holds c.place (is_less c.place n low.0) in (
      (here.0, here.1, own_is c.place (same here.0 c) (and_parts _ _ here.2).0),
      entries_in same history n cs
          (λ k less. ((holds k less).0, (holds k less).1, (and_parts _ _ (holds k less).2).1))
          low.1,
    )

-- what stands behind a call is above it
above : {T E R : Type 0} (n p : ℕ) (ds : List (Call T E R))
    → ((k : ℕ) → k < n → k < p → none_at k ds ≡ true) → times_in p ds ≡ 0
    → Each (λ c. nat_lt c.place n ≡ true) ds → Each (λ d. p < d.place) ds
above n p [] apart none low = tt
above n p (d ∷ ds) apart none low =
    let parts = times_cons p d ds in
    let rest =
    above n p ds (λ k less under. (and_parts _ _ (apart k less under)).1)
    (omega (arith, parts, none)) low.1 in
    let unlike : cond (d.place == p) 1 0 ≡ 0 = omega (arith, parts, none) in
    let not_less : d.place < p → ⊥ =
    λ under. above_none d.place
    (and_parts _ _ (apart d.place (is_less d.place n low.0) under)).0 in
    (above_step d.place p not_less unlike, rest)
  where
    above_none : (k : ℕ) → not (k == k) ≡ true → ⊥
    above_none k h = let e = itself k in let f : false ≡ true = rw e at h in cc

    above_step : (q p : ℕ) → (q < p → ⊥) → ◌≡◌ {A = ℕ} (cond (q == p) 1 0) 0 → p < q
    above_step q p not_less unlike = grind (arith, nat_tests)

rises_in : {T E R : Type 0} (n : ℕ) (cs : List (Call T E R))
    → ((k : ℕ) → k < n → rises_at k cs ≡ true) → ((k : ℕ) → k < n → times_in k cs ≤ 1)
    → Each (λ c. nat_lt c.place n ≡ true) cs → Rises cs
rises_in n [] rises once low = tt
rises_in n (c ∷ cs) rises once low =
    let k : ℕ = c.place in
    let within = is_less k n low.0 in
    let parts = times_cons k c cs in
    let here : ◌≡◌ {A = ℕ} (cond (k == k) 1 0) 1 =
    ap {B = ℕ} (λ (b : Bool). cond b 1 0) (itself k) in (
      above n k cs (λ q less under. at_greater q (rises q less) under)
          (omega (arith, parts, here, once k within)) low.1,
      rises_in n cs (λ q less. at_any q (rises q less))
          (λ q less. omega (arith, times_cons q c cs, once q less)) low.1,
    )
  where
    at_greater : (q : ℕ) → (if nat_lt q c.place then none_at q cs else rises_at q cs) ≡ true
        → q < c.place → none_at q cs ≡ true
    at_greater q h under = let e : nat_lt q c.place ≡ true = grind (arith, nat_tests) in rw e at h

    at_any : (q : ℕ) → (if nat_lt q c.place then none_at q cs else rises_at q cs) ≡ true
        → rises_at q cs ≡ true
    at_any q h = at_any_step q (nat_lt q c.place) h
      where
        at_any_step : (q : ℕ) (b : Bool) → (if b then none_at q cs else rises_at q cs) ≡ true
            → rises_at q cs ≡ true
        at_any_step q true h = none_rises q cs h
        at_any_step q false h = h

-- the same of all lists
lists_in : {T E R X : Type 0} (same : X → Call T E R → Bool) (history : List X) (n : ℕ)
    (lists : List (List (Call T E R)))
    → ((k : ℕ) → k < n
    → (x : X) × (slice_get history k ≡ Some x) × (list_all (holds_in (same x) k) lists ≡ true))
    → ((k : ℕ) → k < n → calls_at k lists ≤ 1)
    → Each (Each (λ c. nat_lt c.place n ≡ true)) lists
    → Each (Each (IsEntryAt same history)) lists × Each Rises lists
lists_in same history n [] holds once low = (tt, tt)
lists_in same history n (v ∷ vs) holds once low =
    let rest =
    lists_in same history n vs
    (λ k less. ((holds k less).0, (holds k less).1, (and_parts _ _ (holds k less).2).1))
    (λ k less. omega (arith, sum_cons (times_in k) v vs, once k less)) low.1
    in (
      (
        entries_in same history n v
            (λ k less. (
              (holds k less).0,
              (holds k less).1,
              (and_parts _ _ (and_parts _ _ (holds k less).2).0).0,
            ))
            low.0,
        rest.0,
      ),
      (
        rises_in n v (λ k less. (and_parts _ _ (and_parts _ _ (holds k less).2).0).1)
            (λ k less. omega (arith, sum_cons (times_in k) v vs, once k less)) low.0,
        rest.1,
      ),
    )

-- where each place of the history holds, and there are as many calls as entries, the history is the
-- calls of all lists
pub are_calls : {T E R X : Type 0} (same : X → Call T E R → Bool) (history : List X)
    (lists : List (List (Call T E R)))
    → ((k : ℕ) → k < length history → place_holds same history lists k ≡ true)
    → sum_by (λ cs. length cs) lists ≡ length history
    → AreCalls same history lists
are_calls {X = X} same history lists holds many =
    let at : (k : ℕ) → k < length history
    → (x : X) × (slice_get history k ≡ Some x) × (holds_at (same x) k lists ≡ true) =
    λ k less. holds_some (λ x. holds_at (same x) k lists) (slice_get history k) (holds k less)
    in
    let once : (k : ℕ) → k < length history → calls_at k lists ≡ 1 =
    λ k less. is_same _ _ (and_parts _ _ (at k less).2).0 in
    let both =
    lists_in same history (length history) lists
    (λ k less. ((at k less).0, (at k less).1, (and_parts _ _ (at k less).2).1))
    (λ k less. omega (arith, once k less)) (all_below (length history) lists once many)
    in
    record { once = once; entries = both.0; rising = both.1 }

-- each call of the place is the entry there
entries_hold : {T E R X : Type 0} (same : X → Call T E R → Bool) (history : List X) (k : ℕ) (x : X)
    (cs : List (Call T E R))
    → slice_get history k ≡ Some x → Each (IsEntryAt same history) cs
    → list_all (λ c. not (c.place == k) || same x c) cs ≡ true
entries_hold same history k x [] at each = refl
entries_hold {X = X} same history k x (c ∷ cs) at each =
    and_from (not (c.place == k) || same x c) (list_all (λ d. not (d.place == k) || same x d) cs)
    (step (c.place == k) refl) (entries_hold same history k x cs at each.1)
  where
    step : (b : Bool) → (c.place == k) ≡ b → (not (c.place == k) || same x c) ≡ true
    step true h =
        let same_place = is_same c.place k h in
        let there : slice_get history k ≡ Some each.0.0 = rw (← same_place) each.0.1 in
        let one : each.0.0 ≡ x = cc in
        let P : X → Type 0 = λ y. same y c ≡ true in
        rw h (subst P one each.0.2)
    step false h = rw h refl

-- no call of the place stands behind one of a greater place
rising_holds : {T E R : Type 0} (k : ℕ) (cs : List (Call T E R)) → Rises cs → rises_at k cs ≡ true
rising_holds k [] h = refl
rising_holds {T} {E} {R} k (c ∷ cs) h = step (nat_lt k c.place) refl (rising_holds k cs h.1)
  where
    over : (ds : List (Call T E R)) → k < c.place → Each (λ d. c.place < d.place) ds
        → none_at k ds ≡ true
    over [] less each = refl
    over (d ∷ ds) less each =
        let first = each.0 in
        let other : (d.place == k) ≡ false = grind (arith, nat_tests) in
        and_from (not (d.place == k)) (none_at k ds) (rw other refl) (over ds less each.1)

    step : (b : Bool) → nat_lt k c.place ≡ b → rises_at k cs ≡ true
        → (if nat_lt k c.place then none_at k cs else rises_at k cs) ≡ true
    step true is rest = rw is (over cs (is_less k c.place is) h.0)
    step false is rest = rw is rest

-- where the history is the calls of all lists, each place of it holds
pub calls_hold : {T E R X : Type 0} (same : X → Call T E R → Bool) (history : List X)
    (lists : List (List (Call T E R)))
    → AreCalls same history lists → (k : ℕ) → k < length history
    → place_holds same history lists k ≡ true
calls_hold {T} {E} {R} {X} same history lists calls k less =
    let here = read_at history k less in
    let once : (calls_at k lists == 1) ≡ true = rw (calls.once k less) refl in
    rw here.1
    (and_from (calls_at k lists == 1) (list_all (holds_in (same here.0) k) lists) once
    (each_list here.0 here.1 lists calls.entries calls.rising))
  where
    each_list : (x : X) → slice_get history k ≡ Some x → (ls : List (List (Call T E R)))
        → Each (Each (IsEntryAt same history)) ls → Each Rises ls
        → list_all (holds_in (same x) k) ls ≡ true
    each_list x at [] entries rising = refl
    each_list x at (l ∷ ls) entries rising =
        let first : holds_in (same x) k l ≡ true =
        and_from (list_all (λ c. not (c.place == k) || same x c) l) (rises_at k l)
        (entries_hold same history k x l at entries.0) (rising_holds k l rising.0) in
        and_from (holds_in (same x) k l) (list_all (holds_in (same x) k) ls) first
        (each_list x at ls entries.1 rising.1)

-- where a place fails, the history isn't the calls of all lists
pub fault_refutes : {T E R X : Type 0} (same : X → Call T E R → Bool) (history : List X)
    (lists : List (List (Call T E R))) (k : ℕ)
    → IsFirstFault same history lists k → AreCalls same history lists → ⊥
fault_refutes same history lists k fault calls =
    let fails = fault.fails in
    let holds = calls_hold same history lists calls k fault.within in
    let e : true ≡ false = sym holds ∙ fails in
    cc

-- how many calls are in lists and one more
pub calls_more : {C : Type 0} (lists : List (List C)) (own : List C)
    → calls_in (lists ++ own ∷ []) ≡ calls_in lists + length own
calls_more lists own =
    omega (
      arith,
      sum_by-append (λ list. length list) lists (own ∷ []),
      sum_cons (λ list. length list) own [],
    )
