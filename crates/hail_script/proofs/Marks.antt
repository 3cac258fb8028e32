-- The members that lines make faulty, as marks.
use Rattle.std.proofs.Common.{◌≡◌, ◌≢◌, ℕ, ◌+◌, ◌<◌, ◌==◌, ◌||◌, Bool, true, false, cond, List, [], ◌∷◌, ◌++◌, length, get_or, refl, sym, ap, ◌∙◌, arith, nat_lt}
use Rattle.std.specs.Prelude.{slice_set, count_by}
use Rattle.std.specs.List.{list_all}
use Rattle.std.proofs.lemmas.Bool.Decides.{nat_tests}
use Rattle.std.proofs.lemmas.List.{ext_get_or, get_or-set_same, get_or-set_other, length-set}
use Rattle.std.proofs.lemmas.List.Folds.{list_any-append}
use Rattle.std.proofs.lemmas.List.Sums.{sum_by-cons}
use Rattle.std.proofs.lemmas.List.FromFn.{get_or-map-range_with_len, length-map-range_with_len}
use Rattle.std.proofs.lemmas.Bool.{and_parts}
use Rattle.cw_rules.specs.World as rule
use Rattle.hail_script.specs.Admission as admission
use Rattle.hail_script.specs.Grammar as grammar

-- whether a member is faulty, with one line more
one_more : (lines : List rule.Line) (x : rule.Line) (i : ℕ)
    → grammar.is_faulty_in (lines ++ x ∷ []) i ≡ (grammar.is_faulty_in lines i || rule.faults i x)
one_more lines x i =
    list_any-append (rule.faults i) lines (x ∷ [])
    ∙ ap (λ (b : Bool). grammar.is_faulty_in lines i || b) (or_false (rule.faults i x))
  where
    or_false : (b : Bool) → (b || false) ≡ b
    or_false true = refl
    or_false false = refl

marks_at : (lines : List rule.Line) (total i : ℕ) → i < total
    → get_or (grammar.faulty_marks lines total) i false ≡ grammar.is_faulty_in lines i
marks_at lines total i h =
    get_or-map-range_with_len (grammar.is_faulty_in lines) 0 total i i false h (omega arith)

marks_long : (lines : List rule.Line) (total : ℕ) → length (grammar.faulty_marks lines total)
    ≡ total
marks_long lines total = length-map-range_with_len (grammar.is_faulty_in lines) 0 total

-- with a line that makes nobody faulty
same_marks : (lines : List rule.Line) (total : ℕ) (x : rule.Line)
    → ((i : ℕ) → rule.faults i x ≡ false)
    → grammar.faulty_marks lines total ≡ grammar.faulty_marks (lines ++ x ∷ []) total
same_marks lines total x none =
    ext_get_or false _ _ (marks_long lines total ∙ sym (marks_long (lines ++ x ∷ []) total))
    (λ i h. at i (long i h))
  where
    or_none : (a b : Bool) → b ≡ false → a ≡ (a || b)
    or_none true b e = refl
    or_none false b e = sym e

    long : (i : ℕ) → i < length (grammar.faulty_marks lines total) → i < total
    long i h = let e = marks_long lines total in omega (arith, e)

    at : (i : ℕ) → i < total
        → get_or (grammar.faulty_marks lines total) i false
        ≡ get_or (grammar.faulty_marks (lines ++ x ∷ []) total) i false
    at i h =
        marks_at lines total i h ∙ or_none (grammar.is_faulty_in lines i) (rule.faults i x) (none i)
        ∙ sym (one_more lines x i) ∙ sym (marks_at (lines ++ x ∷ []) total i h)

-- with a line that makes m faulty
mark_one : (lines : List rule.Line) (total m : ℕ) (fault : rule.Fault)
    → slice_set (grammar.faulty_marks lines total) m true
    ≡ grammar.faulty_marks (lines ++ rule.Faulty m fault ∷ []) total
mark_one lines total m fault =
    ext_get_or false _ _
    (length-set (grammar.faulty_marks lines total) m true ∙ marks_long lines total
    ∙ sym (marks_long (lines ++ rule.Faulty m fault ∷ []) total))
    (λ i h. at i (long i h) (i == m) refl)
  where
    long : (i : ℕ) → i < length (slice_set (grammar.faulty_marks lines total) m true) → i < total
    long i h =
        let e = length-set (grammar.faulty_marks lines total) m true ∙ marks_long lines total in
        omega (arith, e)

    or_true : (a b : Bool) → b ≡ true → true ≡ (a || b)
    or_true true b e = refl
    or_true false b e = sym e

    or_none : (a b : Bool) → b ≡ false → a ≡ (a || b)
    or_none true b e = refl
    or_none false b e = sym e

    after : (i : ℕ) → i < total
        → (grammar.is_faulty_in lines i || (i == m))
        ≡ get_or (grammar.faulty_marks (lines ++ rule.Faulty m fault ∷ []) total) i false
    after i h =
        sym (one_more lines (rule.Faulty m fault) i)
        ∙ sym (marks_at (lines ++ rule.Faulty m fault ∷ []) total i h)

    at : (i : ℕ) → i < total → (t : Bool) → (i == m) ≡ t
        → get_or (slice_set (grammar.faulty_marks lines total) m true) i false
        ≡ get_or (grammar.faulty_marks (lines ++ rule.Faulty m fault ∷ []) total) i false
    at i h true e =
        let same : i ≡ m = grind (arith, nat_tests) in
        let inside : m < length (grammar.faulty_marks lines total) = let n = marks_long lines total
        in
        omega (arith, n) in
        ap (λ (k : ℕ). get_or (slice_set (grammar.faulty_marks lines total) m true) k false) same
        ∙ get_or-set_same (grammar.faulty_marks lines total) m true false inside
        ∙ or_true (grammar.is_faulty_in lines i) (i == m) e ∙ after i h
    at i h false e =
        let other : i ≢ m = grind (arith, nat_tests) in
        get_or-set_other (grammar.faulty_marks lines total) m i true false other
        ∙ marks_at lines total i h
        ∙ or_none (grammar.is_faulty_in lines i) (i == m) e ∙ after i h

-- one line more
pub marks_more : (lines : List rule.Line) (total : ℕ) (x : rule.Line)
    → admission.with_faulty (grammar.faulty_marks lines total) x
    ≡ grammar.faulty_marks (lines ++ x ∷ []) total
marks_more lines total (rule.Do m ask) = same_marks lines total _ (λ i. refl)
marks_more lines total (rule.Cut a c x m ask) = same_marks lines total _ (λ i. refl)
marks_more lines total (rule.Restart m) = same_marks lines total _ (λ i. refl)
marks_more lines total (rule.Faulty m fault) = mark_one lines total m _

-- counting marks is counting faulty members
counted : (lines : List rule.Line) (total : ℕ) (list : List ℕ)
    → list_all (λ i. nat_lt i total) list ≡ true
    → count_by (admission.is_marked (grammar.faulty_marks lines total)) list
    ≡ count_by (grammar.is_faulty_in lines) list
counted lines total [] h = refl
counted lines total (i ∷ list) h =
    let first : nat_lt i total ≡ true =
    (and_parts (nat_lt i total) (list_all (λ j. nat_lt j total) list) h).0 in
    let more : list_all (λ j. nat_lt j total) list ≡ true =
    (and_parts (nat_lt i total) (list_all (λ j. nat_lt j total) list) h).1 in
    let below : i < total = grind (arith, nat_tests) in
    count-cons (admission.is_marked (grammar.faulty_marks lines total)) i list
    ∙ ap
    (λ (b : Bool). cond b 1 0 + count_by (admission.is_marked (grammar.faulty_marks lines total))
    list)
    (marks_at lines total i below)
    ∙ ap (λ (n : ℕ). cond (grammar.is_faulty_in lines i) 1 0 + n) (counted lines total list more)
    ∙ sym (count-cons (grammar.is_faulty_in lines) i list)
  where
    count-cons : (p : ℕ → Bool) (i : ℕ) (is : List ℕ)
        → count_by p (i ∷ is) ≡ cond (p i) 1 0 + count_by p is
    count-cons p i is = sum_by-cons (λ x. cond (p x) 1 0) i is

pub bears_same : (lines : List rule.Line) (total : ℕ) (list : List ℕ)
    → list_all (λ i. nat_lt i total) list ≡ true
    → admission.marks_bear (grammar.faulty_marks lines total) list ≡ grammar.bears lines list
bears_same lines total list h = rw (counted lines total list h) refl
