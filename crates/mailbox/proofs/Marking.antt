-- What the marks of a history tell.
use Rattle.std.proofs.Common.{◌≡◌, ◌≢◌, ◌+◌, ◌<◌, ◌≤◌, ◌∙◌, ℕ, zero, suc, Bool, true, false, not, ◌&&◌, ◌||◌, ◌==◌, List, [], ◌∷◌, length, get_or, map, set, max, refl, sym, subst, arith, cond, ap}
use Rattle.std.specs.Prelude.{slice_get, Option, None, Some, MatchOption, nat_lt, if◌then◌else◌}
use Rattle.std.specs.List.{list_all}
use Rattle.std.proofs.lemmas.Bool.Decides.{nat_tests}
use Rattle.std.proofs.lemmas.List.{get_or-set_same, get_or-set_other}
use Rattle.std.proofs.lemmas.Option.{slice_get_read, slice_get_within}
use Rattle.std.proofs.lemmas.Bool.{and_from}
use Rattle.mailbox.specs.declared.call.Call.{Call}
use Rattle.mailbox.specs.declared.mark.Mark.{Mark}
use Rattle.mailbox.specs.declared.mark.Mark.TheVariants.{Empty, Filled, Failed}
use Rattle.mailbox.specs.Calls.{IsFirstFault, none_at, rises_at, holds_in, holds_at, times_in, calls_at, place_holds}
use Rattle.mailbox.specs.Marks.{is_empty, is_filled, mark_behind, marked_by, marked_by_all, next_mark}
use Rattle.mailbox.proofs.PlacesHad.{is_same, itself, none_all, none_holds, none_rises, none_times, read_at, some_times, sum_cons, times_cons}

-- before the first call every mark is empty
pub empty_at : {X : Type 0} (history : List X) (k : ℕ)
    → get_or (map (λ x. Empty) history) k Empty ≡ Empty
empty_at [] k = refl
empty_at (x ∷ xs) zero = refl
empty_at (x ∷ xs) (suc k) = empty_at xs k

marked_other : {T E R : Type 0} (is_it : Call T E R → Bool) (k : ℕ) (mark : Mark) (top : ℕ)
    (c : Call T E R)
    → (c.place == k) ≡ false → mark_behind is_it k mark top c ≡ mark
marked_other is_it k mark top c h = rw h refl

marked_own : {T E R : Type 0} (is_it : Call T E R → Bool) (mark : Mark) (top : ℕ) (c : Call T E R)
    → mark_behind is_it c.place mark top c ≡ next_mark is_it mark top c
marked_own is_it mark top c = rw (itself c.place) refl

-- a call past the history marks nothing
pub marked_past : {T E R X : Type 0} (same : X → Call T E R → Bool) (history : List X) (mark : Mark)
    (k top : ℕ) (c : Call T E R) (x : X)
    → length history ≤ c.place → slice_get history k ≡ Some x → mark
    ≡ mark_behind (same x) k mark top c
marked_past same history mark k top c x past at =
    let less = slice_get_within history k x at in
    let other : (c.place == k) ≡ false = grind (arith, nat_tests) in
    sym (marked_other (same x) k mark top c other)

-- a call marks its own place alone
pub marked_set : {T E R X : Type 0} (same : X → Call T E R → Bool) (history : List X)
    (marks : List Mark) (k top : ℕ) (c : Call T E R) (mark : Mark) (e x : X)
    → c.place < length history → length marks ≡ length history → e ≡ get_or history c.place e
    → slice_get history k ≡ Some x → mark ≡ next_mark (same e) (get_or marks c.place Empty) top c
    → get_or (set marks c.place mark) k Empty ≡ mark_behind (same x) k (get_or marks k Empty) top c
marked_set {X = X} same history marks k top c mark e x within len read at is =
    step (c.place == k) refl
  where
    own : (y : X) → slice_get history c.place ≡ Some y
        → get_or (set marks c.place mark) c.place Empty
        ≡ mark_behind (same y) c.place (get_or marks c.place Empty) top c
    own y here =
        let there : slice_get history c.place ≡ Some e =
        slice_get_read history (length history) c.place e refl within read in
        let one : e ≡ y = cc in
        get_or-set_same marks c.place mark Empty (omega (arith, within, len))
        ∙ (is
        ∙ (ap (λ z. next_mark (same z) (get_or marks c.place Empty) top c) one
        ∙ sym (marked_own (same y) (get_or marks c.place Empty) top c)))

    step : (b : Bool) → (c.place == k) ≡ b
        → get_or (set marks c.place mark) k Empty
        ≡ mark_behind (same x) k (get_or marks k Empty) top c
    step true h =
        let P : ℕ → Type 0 =
        λ q. slice_get history q ≡ Some x
        → get_or (set marks c.place mark) q Empty
        ≡ mark_behind (same x) q (get_or marks q Empty) top c in
        subst P (is_same c.place k h) (own x) at
    step false h =
        let other : k ≢ c.place =
        λ e. let f : true ≡ false =
        sym (let g : (c.place == k) ≡ true = grind (arith, nat_tests) in g) ∙ h in
        cc in
        get_or-set_other marks c.place k mark Empty other
        ∙ sym (marked_other (same x) k (get_or marks k Empty) top c h)

failed_mark : {T E R : Type 0} (is_it : Call T E R → Bool) (k top : ℕ) (c : Call T E R)
    → mark_behind is_it k Failed top c ≡ Failed
failed_mark is_it k top c =
    elim (c.place == k) as (λ b. (if b then next_mark is_it Failed top c else Failed) ≡ Failed)
    [ true ↦ refl | false ↦ refl ]

filled_mark : {T E R : Type 0} (is_it : Call T E R → Bool) (k top : ℕ) (c : Call T E R)
    → mark_behind is_it k Filled top c ≡ (if c.place == k then Failed else Filled)
filled_mark is_it k top c =
    elim (c.place == k)
    as (λ b. (if b then next_mark is_it Filled top c else Filled)
    ≡ (if b then Failed else Filled))
    [ true ↦ refl | false ↦ refl ]

-- a place that failed stays so
failed_by : {T E R : Type 0} (is_it : Call T E R → Bool) (k top : ℕ) (cs : List (Call T E R))
    → marked_by is_it k Failed top cs ≡ Failed
failed_by is_it k top [] = refl
failed_by is_it k top (c ∷ cs) =
    rw (failed_mark is_it k top c) (failed_by is_it k (max top c.place) cs)

-- a place that was filled stays so where no further call has it
filled_by : {T E R : Type 0} (is_it : Call T E R → Bool) (k top : ℕ) (cs : List (Call T E R))
    → marked_by is_it k Filled top cs ≡ (if none_at k cs then Filled else Failed)
filled_by is_it k top [] = refl
filled_by is_it k top (c ∷ cs) =
    rw (filled_mark is_it k top c)
    (step (c.place == k) (failed_by is_it k (max top c.place) cs)
    (filled_by is_it k (max top c.place) cs))
  where
    step : (b : Bool) → marked_by is_it k Failed (max top c.place) cs ≡ Failed
        → marked_by is_it k Filled (max top c.place) cs ≡ (if none_at k cs then Filled else Failed)
        → marked_by is_it k (if b then Failed else Filled) (max top c.place) cs
        ≡ (if not b && none_at k cs then Filled else Failed)
    step true failed filled = failed
    step false failed filled = filled

-- what an empty mark becomes where the place is had so many times
verdict : Bool → ℕ → Bool → Bool → Mark
verdict none times over holds =
    if none then Empty else if (times == 1) && (not over && holds) then Filled else Failed

verdict_same : (n m : Bool) (t u : ℕ) (o p h i : Bool) → n ≡ m → t ≡ u → o ≡ p → h ≡ i
    → verdict n t o h ≡ verdict m u p i
verdict_same n m t u o p h i a b c d = cc

next_by : {T E R : Type 0} (is_it : Call T E R → Bool) (k top : ℕ) (cs : List (Call T E R))
    (g : Bool)
    → marked_by is_it k (if g then Filled else Failed) top cs
    ≡ (if g then (if none_at k cs then Filled else Failed) else Failed)
next_by is_it k top cs true = filled_by is_it k top cs
next_by is_it k top cs false = failed_by is_it k top cs

not_one : (t : ℕ) → 0 < t → (1 + t == 1) ≡ false
not_one t h = grind (arith, nat_tests)

own_verdict : (n o it l r : Bool) (t : ℕ) → (n ≡ true → t ≡ 0) → (n ≡ false → 0 < t)
    → (n ≡ true → l ≡ true) → (n ≡ true → r ≡ true)
    → (if not o && it then (if n then Filled else Failed) else Failed)
    ≡ verdict false (1 + t) o ((it && l) && r)
unfolding verdict
own_verdict true o it l r t z s a b = rw (z refl, a refl, b refl) (bools o it)
  where
    bools : (o it : Bool)
        → (if not o && it then Filled else Failed)
        ≡ (if (1 + 0 == 1) && (not o && ((it && true) && true)) then Filled else Failed)
    bools true it = refl
    bools false true = refl
    bools false false = refl
own_verdict false o it l r t z s a b = rw (not_one t (s refl)) (bools o it)
  where
    bools : (o it : Bool) → (if not o && it then Failed else Failed) ≡ Failed
    bools true it = refl
    bools false true = refl
    bools false false = refl

other_verdict : (n o p l r : Bool) (t : ℕ)
    → verdict n t (o || p) (l && r) ≡ verdict n t o (l && (if p then n else r))
unfolding verdict
other_verdict true o p l r t = refl
other_verdict false true p l r t = refl
other_verdict false false true true r t = refl
other_verdict false false true false r t = refl
other_verdict false false false l r t = refl

over_max : (k a b : ℕ) → nat_lt k (max a b) ≡ (nat_lt k a || nat_lt k b)
over_max k a b = grind (arith, nat_tests)

not_over : (k : ℕ) → nat_lt k k ≡ false
not_over k = grind (arith, nat_tests)

-- each call of the place is the entry there
abbrev passes : {T E R : Type 0} → (Call T E R → Bool) → ℕ → List (Call T E R) → Bool
passes is_it k cs = list_all (λ c. not (c.place == k) || is_it c) cs

-- what an empty mark becomes by the calls of a list
empty_by : {T E R : Type 0} (is_it : Call T E R → Bool) (k top : ℕ) (cs : List (Call T E R))
    → marked_by is_it k Empty top cs
    ≡ verdict (none_at k cs) (times_in k cs) (nat_lt k top) (holds_in is_it k cs)
empty_by is_it k top [] = unfold verdict in refl
empty_by {T} {E} {R} is_it k top (c ∷ cs) =
    step (c.place == k) refl (empty_by is_it k (max top c.place) cs)
  where
    own : marked_by is_it c.place (next_mark is_it Empty top c) (max top c.place) cs
        ≡ verdict (none_at c.place (c ∷ cs)) (times_in c.place (c ∷ cs)) (nat_lt c.place top)
        (holds_in is_it c.place (c ∷ cs))
    own =
        let p : ℕ = c.place in
        let none : none_at p (c ∷ cs) ≡ false = rw (itself p) refl in
        let times : times_in p (c ∷ cs) ≡ 1 + times_in p cs =
        omega (arith, times_cons p c cs, ap {B = ℕ} (λ (b : Bool). cond b 1 0) (itself p)) in
        let holds : holds_in is_it p (c ∷ cs) ≡ ((is_it c && passes is_it p cs) && rises_at p cs) =
        rw (itself p, not_over p) refl in
        next_by is_it p (max top p) cs (not (nat_lt p top) && is_it c)
        ∙ (own_verdict (none_at p cs) (nat_lt p top) (is_it c) (passes is_it p cs) (rises_at p cs)
        (times_in p cs) (none_times p cs) (some_times p cs) (none_all is_it p cs)
        (none_rises p cs)
        ∙ sym (verdict_same _ _ _ _ _ _ _ _ none times refl holds))

    step : (b : Bool) → (c.place == k) ≡ b
        → marked_by is_it k Empty (max top c.place) cs
        ≡ verdict (none_at k cs) (times_in k cs) (nat_lt k (max top c.place))
        (holds_in is_it k cs)
        → marked_by is_it k (mark_behind is_it k Empty top c) (max top c.place) cs
        ≡ verdict (none_at k (c ∷ cs)) (times_in k (c ∷ cs)) (nat_lt k top)
        (holds_in is_it k (c ∷ cs))
    step true h rest =
        let P : ℕ → Type 0 =
        λ q. marked_by is_it q (mark_behind is_it q Empty top c) (max top c.place) cs
        ≡ verdict (none_at q (c ∷ cs)) (times_in q (c ∷ cs)) (nat_lt q top)
        (holds_in is_it q (c ∷ cs)) in
        subst P (is_same c.place k h)
        (ap (λ m. marked_by is_it c.place m (max top c.place) cs) (marked_own is_it Empty top c)
        ∙ own)
    step false h rest =
        let none : none_at k (c ∷ cs) ≡ none_at k cs = rw h refl in
        let times : times_in k (c ∷ cs) ≡ times_in k cs =
        omega (arith, times_cons k c cs, ap {B = ℕ} (λ (b : Bool). cond b 1 0) h) in
        let holds : holds_in is_it k (c ∷ cs)
        ≡ (passes is_it k cs && (if nat_lt k c.place then none_at k cs else rises_at k cs)) =
        rw h refl in
        ap (λ m. marked_by is_it k m (max top c.place) cs) (marked_other is_it k Empty top c h)
        ∙ (rest
        ∙ (verdict_same _ _ _ _ _ _ _ _ refl refl (over_max k top c.place) refl
        ∙ (other_verdict (none_at k cs) (nat_lt k top) (nat_lt k c.place) (passes is_it k cs)
        (rises_at k cs) (times_in k cs)
        ∙ sym (verdict_same _ _ _ _ _ _ _ _ none times refl holds))))

failed_all : {T E R : Type 0} (is_it : Call T E R → Bool) (k : ℕ) (ls : List (List (Call T E R)))
    → marked_by_all is_it k Failed ls ≡ Failed
failed_all is_it k [] = refl
failed_all is_it k (l ∷ ls) = rw (failed_by is_it k 0 l) (failed_all is_it k ls)

times_more : {T E R : Type 0} (k : ℕ) (l : List (Call T E R)) (ls : List (List (Call T E R)))
    → calls_at k (l ∷ ls) ≡ times_in k l + calls_at k ls
times_more k l ls = sum_cons (times_in k) l ls

-- a place that was filled stays so where no list has it
filled_all : {T E R : Type 0} (is_it : Call T E R → Bool) (k : ℕ) (ls : List (List (Call T E R)))
    → marked_by_all is_it k Filled ls ≡ (if calls_at k ls == 0 then Filled else Failed)
filled_all is_it k [] = refl
filled_all is_it k (l ∷ ls) =
    rw (filled_by is_it k 0 l)
    (step (none_at k l) (none_times k l) (some_times k l) (times_more k l ls)
    (filled_all is_it k ls))
  where
    step : (n : Bool) → (n ≡ true → times_in k l ≡ 0) → (n ≡ false → 0 < times_in k l)
        → calls_at k (l ∷ ls) ≡ times_in k l + calls_at k ls
        → marked_by_all is_it k Filled ls ≡ (if calls_at k ls == 0 then Filled else Failed)
        → marked_by_all is_it k (if n then Filled else Failed) ls
        ≡ (if calls_at k (l ∷ ls) == 0 then Filled else Failed)
    step true z s more rest =
        let same : calls_at k (l ∷ ls) ≡ calls_at k ls = omega (arith, more, z refl) in
        rest ∙ ap (λ (t : ℕ). if t == 0 then Filled else Failed) (sym same)
    step false z s more rest =
        let over : 0 < calls_at k (l ∷ ls) = omega (arith, more, s refl) in
        failed_all is_it k ls
        ∙ ap (λ (b : Bool). if b then Filled else Failed)
        (sym (not_none (calls_at k (l ∷ ls)) over))
      where
        not_none : (t : ℕ) → 0 < t → (t == 0) ≡ false
        not_none t h = grind (arith, nat_tests)

-- where no list has a place, all that is asked of its calls holds
none_lists : {T E R : Type 0} (is_it : Call T E R → Bool) (k : ℕ) (ls : List (List (Call T E R)))
    → calls_at k ls ≡ 0
    → list_all (holds_in is_it k) ls ≡ true
none_lists is_it k [] h = refl
none_lists is_it k (l ∷ ls) h =
    and_from (holds_in is_it k l) (list_all (holds_in is_it k) ls) (step (none_at k l) refl)
    (none_lists is_it k ls (omega (arith, times_more k l ls, h)))
  where
    step : (n : Bool) → none_at k l ≡ n → holds_in is_it k l ≡ true
    step true is = none_holds is_it k l is
    step false is = absurd (omega (arith, times_more k l ls, h, some_times k l is))

filled_if : (b : Bool) → is_filled (if b then Filled else Failed) ≡ b
filled_if true = refl
filled_if false = refl

-- what one list and those behind it leave of an empty mark
list_verdict : (n h rest : Bool) (t u : ℕ) → (n ≡ true → t ≡ 0) → (n ≡ true → h ≡ true)
    → (n ≡ false → 0 < t) → (u ≡ 0 → rest ≡ true)
    → (mark_0 mark_1 mark_2 : Mark) → is_filled mark_0 ≡ ((u == 1) && rest)
    → mark_1 ≡ (if u == 0 then Filled else Failed) → mark_2 ≡ Failed
    → (after : Mark → Mark) → after Empty ≡ mark_0 → after Filled ≡ mark_1 → after Failed ≡ mark_2
    → is_filled (after (verdict n t false h)) ≡ ((t + u == 1) && (h && rest))
unfolding verdict
list_verdict true h rest t u z a s w mark_0 mark_1 mark_2 e f g after ae af ag =
    let nothing : t + u ≡ u = omega (arith, z refl) in
    ap is_filled ae ∙ (e ∙ rw (nothing, a refl) refl)
list_verdict false h rest t u z a s w mark_0 mark_1 mark_2 e f g after ae af ag = one (t == 1) refl
  where
    more : t ≢ 1 → (t + u == 1) ≡ false
    more other = let over = s refl in grind (arith, nat_tests)

    last : (b : Bool) → (u == 0) ≡ b → b ≡ ((1 + u == 1) && rest)
    last true is =
        let zero_u : u ≡ 0 = grind (arith, nat_tests) in
        rw (zero_u, w zero_u) refl
    last false is =
        let other : (1 + u == 1) ≡ false = grind (arith, nat_tests) in
        rw other refl

    held : (i : Bool) → h ≡ i → (t == 1) ≡ true
        → is_filled (after (if (t == 1) && (not false && h) then Filled else Failed))
        ≡ ((t + u == 1) && (h && rest))
    held true is once =
        let t_is : t ≡ 1 = is_same t 1 once in
        rw (is, t_is) (ap is_filled (af ∙ f) ∙ (filled_if (u == 0) ∙ last (u == 0) refl))
    held false is once =
        rw (is, once) (ap is_filled (ag ∙ g) ∙ none (t + u == 1))
      where
        none : (b : Bool) → false ≡ (b && (false && rest))
        none true = refl
        none false = refl

    one : (b : Bool) → (t == 1) ≡ b
        → is_filled (after (if (t == 1) && (not false && h) then Filled else Failed))
        ≡ ((t + u == 1) && (h && rest))
    one true is = held h refl is
    one false is =
        let other : t ≢ 1 = λ e. let k : (t == 1) ≡ true = rw e refl in
        let x : true ≡ false = sym k ∙ is in cc in
        rw (is, more other) (ap is_filled (ag ∙ g))

-- the marks of all lists tell which places hold
pub marks_tell : {T E R : Type 0} (is_it : Call T E R → Bool) (k : ℕ)
    (ls : List (List (Call T E R)))
    → is_filled (marked_by_all is_it k Empty ls) ≡ holds_at is_it k ls
marks_tell is_it k [] = refl
marks_tell is_it k (l ∷ ls) =
    let low : nat_lt k 0 ≡ false = grind (arith, nat_tests) in
    let first = empty_by is_it k 0 l ∙ verdict_same _ _ _ _ _ _ _ _ refl refl low refl in
    let times = times_more k l ls in
    ap (λ m. is_filled (marked_by_all is_it k m ls)) first
    ∙ (list_verdict (none_at k l) (holds_in is_it k l) (list_all (holds_in is_it k) ls)
    (times_in k l) (calls_at k ls)
    (none_times k l) (none_holds is_it k l) (some_times k l) (none_lists is_it k ls)
    (marked_by_all is_it k Empty ls) (marked_by_all is_it k Filled ls)
    (marked_by_all is_it k Failed ls)
    (marks_tell is_it k ls) (filled_all is_it k ls) (failed_all is_it k ls)
    (λ m. marked_by_all is_it k m ls) refl refl refl
    ∙ ap (λ (t : ℕ). (t == 1) && (holds_in is_it k l && list_all (holds_in is_it k) ls))
    (sym times))

-- whether the place holds is whether its mark is filled
pub filled_holds : {T E R X : Type 0} (same : X → Call T E R → Bool) (history : List X)
    (ls : List (List (Call T E R))) (k : ℕ) (mark : Mark)
    → k < length history
    → ((x : X) → slice_get history k ≡ Some x → mark ≡ marked_by_all (same x) k Empty ls)
    → is_filled mark ≡ place_holds same history ls k
filled_holds {X = X} same history ls k mark less is =
    let here = read_at history k less in
    rw here.1 (ap is_filled (is here.0 here.1) ∙ marks_tell (same here.0) k ls)

-- what the first mark that isn't filled tells
pub fault_of : {T E R X : Type 0} (same : X → Call T E R → Bool) (history : List X)
    (ls : List (List (Call T E R))) (marks : List Mark) (found : Option ℕ)
    → length marks ≡ length history
    → ((k : ℕ) (x : X) → slice_get history k ≡ Some x
    → get_or marks k Empty ≡ marked_by_all (same x) k Empty ls)
    → MatchOption found ((k : ℕ) → k < length marks → is_filled (get_or marks k Empty) ≡ true)
    (λ place. (place < length marks)
    × (is_filled (get_or marks place Empty) ≡ false)
    × ((k : ℕ) → k < place → is_filled (get_or marks k Empty) ≡ true))
    → MatchOption found ((k : ℕ) → k < length history → place_holds same history ls k ≡ true)
    (IsFirstFault same history ls)
fault_of same history ls marks None len is found =
    λ k less. sym (filled_holds same history ls k (get_or marks k Empty) less (is k))
    ∙ found k (omega (arith, len, less))
fault_of same history ls marks (Some place) len is found =
    let within : place < length history = omega (arith, len, found.0) in
    record {
      within = within;
      fails =
          sym (filled_holds same history ls place (get_or marks place Empty) within (is place))
          ∙ found.1;
      least =
          λ i less. sym
          (filled_holds same history ls i (get_or marks i Empty) (omega (arith, within, less))
          (is i))
          ∙ found.2 i less;
    }
