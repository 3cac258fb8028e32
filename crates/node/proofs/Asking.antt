-- What is asked for after a step is what its own notes newly lead to.
use Rattle.std.proofs.Common.{◌≡◌, ◌&&◌, ◌||◌, Bool, true, false, cond, not, refl, sym, ◌∙◌, ap, List, [], ◌∷◌, ◌++◌, filter}
use Rattle.std.specs.List.{AllByRecursion, list_any}
use Rattle.std.proofs.lemmas.Bool.{false≢true}
use Rattle.cw_types.specs.Same.{same_commitment}
use Rattle.cw_types.specs.declared.commitment.Commitment.{Commitment}
use Rattle.cw_types.proofs.Same.{same_commitment-true}
use Rattle.cw_rules.specs.Sends.{once}

abbrev pub Test : Type 0
Test = Commitment → Bool

-- those that are led to, but the root, under which no block is noted
abbrev pub unnoted : Test → Commitment → List Commitment → List Commitment
unnoted noted root led = filter (λ c. not (noted c)) (once (root ∷ []) led)

-- ---- filters

filter_both : (p q : Test) (xs : List Commitment)
    → filter p (filter q xs) ≡ filter (λ c. q c && p c) xs
filter_both p q [] = refl
filter_both p q (x ∷ xs) = go (q x) (p x) refl refl (filter_both p q xs)
  where
    go : (a b : Bool) → q x ≡ a → p x ≡ b → filter p (filter q xs) ≡ filter (λ c. q c && p c) xs
        → filter p (cond a (x ∷ filter q xs) (filter q xs))
        ≡ cond (a && p x) (x ∷ filter (λ c. q c && p c) xs) (filter (λ c. q c && p c) xs)
    go true true e f more = rw f (ap (λ ys. x ∷ ys) more)
    go true false e f more = rw f more
    go false b e f more = more

pub filter_alike : (p q : Test) (xs : List Commitment) → ((c : Commitment) → p c ≡ q c)
    → filter p xs ≡ filter q xs
filter_alike p q [] same = refl
filter_alike p q (x ∷ xs) same =
    ap (λ b. cond b (x ∷ filter p xs) (filter p xs)) (same x)
    ∙ ap (λ ys. cond (q x) (x ∷ ys) ys) (filter_alike p q xs same)

pub filter_joined : (p : Test) (xs ys : List Commitment)
    → filter p (xs ++ ys) ≡ filter p xs ++ filter p ys
filter_joined p [] ys = refl
filter_joined p (x ∷ xs) ys = go (p x) (filter_joined p xs ys)
  where
    go : (b : Bool) → filter p (xs ++ ys) ≡ filter p xs ++ filter p ys
        → cond b (x ∷ filter p (xs ++ ys)) (filter p (xs ++ ys))
        ≡ cond b (x ∷ filter p xs) (filter p xs) ++ filter p ys
    go true more = ap (λ zs. x ∷ zs) more
    go false more = more

-- ---- each once

-- those that pass are in both or in neither
abbrev AreAlike : Test → List Commitment → List Commitment → Type 0
AreAlike p s t =
    (c : Commitment) → p c ≡ true
    → list_any (same_commitment c) s ≡ list_any (same_commitment c) t

-- what is seen matters for those alone that pass
once_alike : (p : Test) (s t xs : List Commitment) → AreAlike p s t
    → once s (filter p xs) ≡ once t (filter p xs)
once_alike p s t [] same = refl
once_alike p s t (x ∷ xs) same = go (λ s2 t2 h. once_alike p s2 t2 xs h) (p x) refl
  where
    by : ((s2 t2 : List Commitment) → AreAlike p s2 t2
        → once s2 (filter p xs) ≡ once t2 (filter p xs))
        → (b : Bool) → cond b (once s (filter p xs)) (x ∷ once (x ∷ s) (filter p xs))
        ≡ cond b (once t (filter p xs)) (x ∷ once (x ∷ t) (filter p xs))
    by again true = again s t same
    by again false =
        ap (λ ys. x ∷ ys)
        (again (x ∷ s) (x ∷ t) (λ c f. ap (λ b. same_commitment c x || b) (same c f)))

    go : ((s2 t2 : List Commitment) → AreAlike p s2 t2
        → once s2 (filter p xs) ≡ once t2 (filter p xs))
        → (b : Bool) → p x ≡ b
        → once s (cond b (x ∷ filter p xs) (filter p xs))
        ≡ once t (cond b (x ∷ filter p xs) (filter p xs))
    go again false e = again s t same
    go again true e =
        ap (λ b. cond b (once s (filter p xs)) (x ∷ once (x ∷ s) (filter p xs))) (same x e)
        ∙ by again (list_any (same_commitment x) t)

-- the tests agree on what isn't seen
abbrev Agree : Test → Test → List Commitment → Type 0
Agree p q seen = (c : Commitment) → list_any (same_commitment c) seen ≡ false → p c ≡ q c

-- tests that agree on what isn't seen leave the same
once_unseen : (p q : Test) (seen xs : List Commitment) → Agree p q seen
    → once seen (filter p xs) ≡ once seen (filter q xs)
once_unseen p q seen [] same = refl
once_unseen p q seen (x ∷ xs) same =
    go (λ s h. once_unseen p q s xs h) (list_any (same_commitment x) seen) refl
  where
    past : (r : Test) → list_any (same_commitment x) seen ≡ true → (b : Bool)
        → once seen (cond b (x ∷ filter r xs) (filter r xs)) ≡ once seen (filter r xs)
    past r e true = rw e refl
    past r e false = refl

    or_second : (a b : Bool) → (a || b) ≡ false → b ≡ false
    or_second true b h = absurd (false≢true (sym h))
    or_second false b h = h

    here : ((s : List Commitment) → Agree p q s → once s (filter p xs) ≡ once s (filter q xs))
        → list_any (same_commitment x) seen ≡ false → (b : Bool)
        → once seen (cond b (x ∷ filter p xs) (filter p xs))
        ≡ once seen (cond b (x ∷ filter q xs) (filter q xs))
    here again e true =
        rw e
        (ap (λ ys. x ∷ ys)
        (again (x ∷ seen)
        (λ c f. same c (or_second (same_commitment c x) (list_any (same_commitment c) seen) f))))
    here again e false = again seen same

    go : ((s : List Commitment) → Agree p q s → once s (filter p xs) ≡ once s (filter q xs))
        → (s : Bool) → list_any (same_commitment x) seen ≡ s
        → once seen (filter p (x ∷ xs)) ≡ once seen (filter q (x ∷ xs))
    go again true e = past p e (p x) ∙ (again seen same ∙ sym (past q e (q x)))
    go again false e =
        here again e (p x)
        ∙ ap (λ b. once seen (cond b (x ∷ filter q xs) (filter q xs))) (same x e)

-- a filter goes before as well as after, since it tells the same of the same commitment
once_filter : (p : Test) (seen xs : List Commitment)
    → filter p (once seen xs) ≡ once seen (filter p xs)
once_filter p seen [] = refl
once_filter p seen (x ∷ xs) =
    go (once_filter p seen xs) (once_filter p (x ∷ seen) xs) (list_any (same_commitment x) seen)
    (p x) refl refl
  where
    skip : p x ≡ false → once (x ∷ seen) (filter p xs) ≡ once seen (filter p xs)
    skip f = once_alike p (x ∷ seen) seen xs (λ c h. other c h (same_commitment c x) refl)
      where
        other : (c : Commitment) → p c ≡ true → (b : Bool) → same_commitment c x ≡ b
            → (b || list_any (same_commitment c) seen) ≡ list_any (same_commitment c) seen
        other c h false e = refl
        other c h true e =
            absurd (false≢true (sym f ∙ (ap p (sym (same_commitment-true c x e)) ∙ h)))

    go : filter p (once seen xs) ≡ once seen (filter p xs)
        → filter p (once (x ∷ seen) xs) ≡ once (x ∷ seen) (filter p xs) → (s b : Bool)
        → list_any (same_commitment x) seen ≡ s → p x ≡ b
        → filter p (cond s (once seen xs) (x ∷ once (x ∷ seen) xs))
        ≡ once seen (cond b (x ∷ filter p xs) (filter p xs))
    go same more true true e f = same ∙ sym (rw e refl)
    go same more true false e f = same
    go same more false true e f = rw f (ap (λ zs. x ∷ zs) more ∙ sym (rw e refl))
    go same more false false e f = rw f (more ∙ skip f)

-- what isn't seen is among each once where it is among all
in_once : (c : Commitment) (seen xs : List Commitment)
    → list_any (same_commitment c) seen ≡ false
    → list_any (same_commitment c) (once seen xs) ≡ list_any (same_commitment c) xs
in_once c seen [] out = refl
in_once c seen (x ∷ xs) out =
    go (in_once c seen xs out) (λ h. in_once c (x ∷ seen) xs h)
    (list_any (same_commitment x) seen) (same_commitment c x) refl refl
  where
    go : list_any (same_commitment c) (once seen xs) ≡ list_any (same_commitment c) xs
        → (list_any (same_commitment c) (x ∷ seen) ≡ false
        → list_any (same_commitment c) (once (x ∷ seen) xs) ≡ list_any (same_commitment c) xs)
        → (s b : Bool) → list_any (same_commitment x) seen ≡ s → same_commitment c x ≡ b
        → list_any (same_commitment c) (cond s (once seen xs) (x ∷ once (x ∷ seen) xs))
        ≡ (b || list_any (same_commitment c) xs)
    go same more true true e f =
        absurd
        (false≢true
        (sym out
        ∙ (ap (λ (d : Commitment). list_any (same_commitment d) seen) (same_commitment-true c x f)
        ∙ e)))
    go same more true false e f = same
    go same more false true e f = rw f refl
    go same more false false e f =
        rw f (more (ap (λ b. b || list_any (same_commitment c) seen) f ∙ out))

in_filter : (c : Commitment) (q : Test) (xs : List Commitment)
    → list_any (same_commitment c) (filter q xs) ≡ (list_any (same_commitment c) xs && q c)
in_filter c q [] = refl
in_filter c q (x ∷ xs) = go (q x) (same_commitment c x) refl refl (in_filter c q xs)
  where
    go : (a b : Bool) → q x ≡ a → same_commitment c x ≡ b
        → list_any (same_commitment c) (filter q xs) ≡ (list_any (same_commitment c) xs && q c)
        → list_any (same_commitment c) (cond a (x ∷ filter q xs) (filter q xs))
        ≡ ((b || list_any (same_commitment c) xs) && q c)
    go true true e f more = rw f (sym (ap q (same_commitment-true c x f) ∙ e))
    go true false e f more = rw f more
    go false false e f more = more
    go false true e f more =
        more
        ∙ (rw (ap q (same_commitment-true c x f) ∙ e) (and_false (list_any (same_commitment c) xs)))
      where
        and_false : (d : Bool) → (d && false) ≡ false
        and_false true = refl
        and_false false = refl

-- ---- what is asked for

-- `old` are the commitments that the notes before led to, `still` those of them that these notes
-- lead to after the step, and `new` those that its notes lead to
pub asks_are_new : (root : Commitment) (was is : Test) (old still new : List Commitment)
    → ((c : Commitment) → was c ≡ true → is c ≡ true)
    → AllByRecursion (λ c. list_any (same_commitment c) old ≡ true) still
    → filter (λ c. not (list_any (same_commitment c) (unnoted was root old)))
    (unnoted is root (still ++ new))
    ≡ once (root ∷ []) (filter (λ c. not (is c) && not (list_any (same_commitment c) old)) new)
asks_are_new root was is old still new stays led =
    filter_both late (λ c. not (is c)) (once (root ∷ []) (still ++ new))
    ∙ (once_filter (λ c. not (is c) && late c) (root ∷ []) (still ++ new)
    ∙ (once_unseen (λ c. not (is c) && late c) first (root ∷ []) (still ++ new) agree
    ∙ ap (once (root ∷ []))
    (filter_joined first still new ∙ ap (λ xs. xs ++ filter first new) (gone still led))))
  where
    late : Test
    late c = not (list_any (same_commitment c) (unnoted was root old))

    first : Test
    first c = not (is c) && not (list_any (same_commitment c) old)

    agree : (c : Commitment) → list_any (same_commitment c) (root ∷ []) ≡ false
        → (not (is c) && late c) ≡ first c
    agree c out =
        ap (λ b. not (is c) && not b)
        (in_filter c (λ d. not (was d)) (once (root ∷ []) old)
        ∙ ap (λ b. b && not (was c)) (in_once c (root ∷ []) old out))
        ∙ go (is c) (was c) (list_any (same_commitment c) old) (stays c)
      where
        go : (i w o : Bool) → (w ≡ true → i ≡ true)
            → (not i && not (o && not w)) ≡ (not i && not o)
        go true w o h = refl
        go false true o h = absurd (false≢true (h refl))
        go false false true h = refl
        go false false false h = refl

    fails : (i o : Bool) → o ≡ true → (not i && not o) ≡ false
    fails true o h = refl
    fails false o h = ap not h

    gone : (xs : List Commitment)
        → AllByRecursion (λ c. list_any (same_commitment c) old ≡ true) xs → filter first xs ≡ []
    gone [] h = refl
    gone (x ∷ xs) h = rw (fails (is x) (list_any (same_commitment x) old) h.0) (gone xs h.1)
