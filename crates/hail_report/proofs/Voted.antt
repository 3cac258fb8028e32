-- What is kept of sent votes, as messages are added.
use mathlib.Core.Bool.{true≢false}
use Rattle.std.proofs.Common.{◌≡◌, ℕ, ◌==◌, ◌&&◌, ◌||◌, Bool, true, false, List, [], ◌∷◌, ◌++◌, Option, Some, None, refl, sym, ap, subst, ◌∙◌, arith, eqb-true}
use Rattle.std.specs.Prelude.{unwrap_or}
use Rattle.std.specs.BTreeMap.{BTreeMap, Updates, get}
use Rattle.std.specs.List.{list_any}
use Rattle.std.specs.Ordering.{is_eq, nat_cmp, ordering_then}
use Rattle.std.specs.declared.cmp.Ordering.{Ordering}
use Rattle.std.specs.declared.cmp.Ordering.TheVariants.{Less, Equal, Greater}
use Rattle.std.proofs.lemmas.Bool.Decides.{nat_tests}
use Rattle.std.proofs.lemmas.List.Folds.{list_any-append}
use Rattle.std.proofs.lemmas.Bool.{and_parts, false_from_ne_true}
use Rattle.cw_types.specs.Same.{same_vote}
use Rattle.cw_types.proofs.Same.{same_vote-true}
use Rattle.cw_types.specs.declared.message.Message.TheVariants as message
use Rattle.cw_types.specs.declared.vote.Vote.{Vote}
use Rattle.cw_rules.specs.World.{Sent, is_sent_vote}
use Rattle.hail_report.specs.Votes.{TellVotes, round_cmp, round_of, votes_under}

abbrev Round : Type 0
Round = ℕ × ℕ × ℕ

abbrev Kept : Type 0
Kept = BTreeMap Round (List Vote)

-- ---- the order of rounds

then_both : (a b : Ordering) → is_eq (ordering_then a b) ≡ true
    → (is_eq a ≡ true) × (is_eq b ≡ true)
then_both Less b e = absurd (let no : false ≡ true = e in cc)
then_both Equal b e = (refl, e)
then_both Greater b e = absurd (let no : false ≡ true = e in cc)

nat_tied : (x y : ℕ) → is_eq (nat_cmp x y) ≡ true → x ≡ y
nat_tied x y e = grind (arith, nat_tests)

nat_itself : (x : ℕ) → nat_cmp x x ≡ Equal
nat_itself x = grind (arith, nat_tests)

tied : (a b : Round) → is_eq (round_cmp a b) ≡ true → a ≡ b
tied (a, b, c) (d, e, f) h =
    let outer = then_both (ordering_then (nat_cmp a d) (nat_cmp b e)) (nat_cmp c f) h in
    let inner = then_both (nat_cmp a d) (nat_cmp b e) outer.0 in
    rw (nat_tied a d inner.0, nat_tied b e inner.1, nat_tied c f outer.1) refl

itself : (a : Round) → is_eq (round_cmp a a) ≡ true
itself (a, b, c) = rw (nat_itself a, nat_itself b, nat_itself c) refl

-- ---- a vote more

eq_itself : (x : ℕ) → (x == x) ≡ true
eq_itself x = grind (arith, nat_tests)

-- one vote more at the end
any_more : {X : Type 0} (test : X → Bool) (xs : List X) (x : X)
    → list_any test (xs ++ x ∷ []) ≡ (list_any test xs || test x)
any_more test xs x =
    list_any-append test xs (x ∷ []) ∙ ap (λ b. list_any test xs || b) (or_false (test x))
  where
    or_false : (b : Bool) → (b || false) ≡ b
    or_false true = refl
    or_false false = refl

or_no : (a b : Bool) → b ≡ false → (a || b) ≡ a
or_no true b e = refl
or_no false b e = e

module _ (m n : Kept) (i : ℕ) (w : Vote) (before : List Sent) (s : Sent) where
  -- the votes of a round with one more, and those of all others as before
  pub record HasMore : Type 0 where
    pub here : votes_under n (round_of i w) ≡ votes_under m (round_of i w) ++ w ∷ []
    pub others : (k : Round) → is_eq (round_cmp (round_of i w) k) ≡ false
        → votes_under n k ≡ votes_under m k

  -- then they tell of one message more, where it is that vote
  pub told_more : s.from ≡ i → s.message ≡ message.Vote i w → HasMore → TellVotes m before
      → TellVotes n (before ++ s ∷ [])
  told_more from is more told j v = go (is_eq (round_cmp (round_of i w) (round_of j v))) refl
    where
      sent : is_sent_vote j v s ≡ ((i == j) && ((i == j) && same_vote v w))
      sent = rw (from, is) refl

      go : (b : Bool) → is_eq (round_cmp (round_of i w) (round_of j v)) ≡ b
          → list_any (same_vote v) (votes_under n (round_of j v))
          ≡ list_any (is_sent_vote j v) (before ++ s ∷ [])
      go true e =
          let k : round_of i w ≡ round_of j v = tied (round_of i w) (round_of j v) e in
          let same : i ≡ j = ap (λ (r : Round). r.0) k in
          let yes : (i == j) ≡ true = rw same (eq_itself j) in
          let now : votes_under n (round_of j v) ≡ votes_under m (round_of j v) ++ w ∷ [] =
          subst (λ (r : Round). votes_under n r ≡ votes_under m r ++ w ∷ []) k more.here in
          ap (λ (l : List Vote). list_any (same_vote v) l) now
          ∙ any_more (same_vote v) (votes_under m (round_of j v)) w
          ∙ ap (λ b. b || same_vote v w) (told j v)
          ∙ ap (λ b. list_any (is_sent_vote j v) before || b) (sym (sent ∙ rw yes refl))
          ∙ sym (any_more (is_sent_vote j v) before s)
      go false e =
          let none : is_sent_vote j v s ≡ false =
          false_from_ne_true (is_sent_vote j v s)
          (λ h. other (and_parts (i == j) ((i == j) && same_vote v w) (sym sent ∙ h))) in
          ap (λ (l : List Vote). list_any (same_vote v) l) (more.others (round_of j v) e) ∙ told j v
          ∙ sym (or_no (list_any (is_sent_vote j v) before) (is_sent_vote j v s) none)
          ∙ sym (any_more (is_sent_vote j v) before s)
        where
          other : ((i == j) ≡ true) × (((i == j) && same_vote v w) ≡ true) → ⊥
          other h =
              let same : j ≡ i = sym (eqb-true i j h.0) in
              let one : v ≡ w = same_vote-true v w (and_parts (i == j) (same_vote v w) h.1).1 in
              let at : round_of j v ≡ round_of i w = rw (same, one) refl in
              let yes : is_eq (round_cmp (round_of i w) (round_of j v)) ≡ true =
              subst (λ (r : Round). is_eq (round_cmp (round_of i w) r) ≡ true) (sym at)
              (itself (round_of i w)) in
              absurd (true≢false (sym yes ∙ e))

  -- and where it isn't a vote that its own signer sent, what was kept tells of it
  pub told_still : ((j : ℕ) (v : Vote) → is_sent_vote j v s ≡ false) → TellVotes m before
      → TellVotes m (before ++ s ∷ [])
  told_still none told j v =
      told j v ∙ sym (or_no (list_any (is_sent_vote j v) before) (is_sent_vote j v s) (none j v))
      ∙ sym (any_more (is_sent_vote j v) before s)

-- the same signer, epoch and view
pub round_is : (i e e' v v' : ℕ) → e ≡ e' → v ≡ v' → (let k : Round = (i, e, v) in k) ≡ (i, e', v')
round_is i e e' v v' p q =
    ap (λ (n : ℕ). let k : Round = (i, n, v) in k) p
    ∙ ap (λ (n : ℕ). let k : Round = (i, e', n) in k) q

-- what was taken out, with one more, and put back
pub put_back : (m r n : Kept) (i : ℕ) (w : Vote) (k : Round) (new : List Vote) → k ≡ round_of i w
    → Updates round_cmp m r k None → Updates round_cmp r n k (Some new)
    → new ≡ unwrap_or (get round_cmp m k) [] ++ w ∷ [] → (before : List Sent) (s : Sent)
    → HasMore m n i w before s
put_back m r n i w k new at out back is before s =
    let out' : Updates round_cmp m r (round_of i w) None =
    subst (λ (x : Round). Updates round_cmp m r x None) at out in
    let back' : Updates round_cmp r n (round_of i w) (Some new) =
    subst (λ (x : Round). Updates round_cmp r n x (Some new)) at back in
    let is' : new ≡ unwrap_or (get round_cmp m (round_of i w)) [] ++ w ∷ [] =
    subst (λ (x : Round). new ≡ unwrap_or (get round_cmp m x) [] ++ w ∷ []) at is in
    record {
      here = ap (λ (o : Option (List Vote)). unwrap_or o []) back'.1 ∙ is';
      others = λ q e. ap (λ (o : Option (List Vote)). unwrap_or o []) (back'.2 q e ∙ out'.2 q e);
    }
