-- Over what a member may propose, by the last settled view and by where the nullified views begin.
use Rattle.std.proofs.Common.{◌≡◌, ◌⊎◌, inl, inr, ℕ, zero, suc, ◌+◌, ◌-◌, ◌<◌, ◌≤◌, ◌==◌, Bool, true, false, if◌then◌else◌, min, nat_le, nat_lt, List, Option, Some, None, option_map, option_and_then, refl, sym, ◌∙◌, ap, arith, leb-true, ne_eqb}
use Rattle.std.specs.List.{list_all}
use Rattle.std.specs.Option.{option_or}
use Rattle.std.proofs.lemmas.Bool.{cases_lt}
use Rattle.std.proofs.lemmas.Bool.Decides.{nat_tests}
use Rattle.cw_types.specs.declared.commitment.Commitment.{Commitment}
use Rattle.cw_types.specs.declared.note.Note.{Note}
use Rattle.cw_types.specs.declared.vote.Proposal.{Proposal}
use Rattle.cw_rules.specs.Notes.{nullified, epoch_parent, settled, settler, view_of}
use Rattle.cw_rules.specs.Owed.{all_nullified, views_between}
use Rattle.cw_rules.proofs.Lists.{all_range, one_test, range_all}
use Rattle.voter.specs.Owing.{parent_below, parent_over}
use Rattle.voter.specs.Runs.{nullified_from, pass_from}
use Rattle.voter.specs.Settled.{last_some, later_settled}
use Rattle.voter.proofs.Joining.{from_all, from_is, from_le, from_stop}

-- all numbers between pass where what passes below the higher one begins right behind the lower one
pub all_between : (p : ℕ → Bool) (low high : ℕ)
    → list_all p (views_between low high) ≡ nat_le (pass_from p high - 1) low
all_between p low high =
    one_test (list_all p (views_between low high)) (nat_le (pass_from p high - 1) low) first each
  where
    each : nat_le (pass_from p high - 1) low ≡ true → list_all p (views_between low high) ≡ true
    each h =
        let le : pass_from p high - 1 ≤ low = leb-true (pass_from p high - 1) low h in
        all_range p (low + 1) (high - low - 1)
        (λ w a b. from_all p high w (omega (arith, le, a)) (omega (arith, a, b)))

    first : list_all p (views_between low high) ≡ true → nat_le (pass_from p high - 1) low ≡ true
    first h = go (pass_from p high) refl
      where
        go : (f : ℕ) → pass_from p high ≡ f → nat_le (f - 1) low ≡ true
        go zero e = grind (arith, nat_tests)
        go (suc u) e = at (cases_lt low u)
          where
            at : (low < u) ⊎ (u ≤ low) → nat_le (suc u - 1) low ≡ true
            at (inl a) =
                let under = from_le p high in
                let here : p u ≡ true =
                range_all p (low + 1) (high - low - 1) h u (omega (arith, a))
                (omega (arith, a, under, e)) in
                let no : true ≡ false = sym here ∙ from_stop p high u e in
                cc
            at (inr a) = grind (arith, nat_tests)

-- where it begins below a lower number as well, it begins there
pub from_lower : (p : ℕ → Bool) (top high : ℕ) → top ≤ high → pass_from p high ≤ top
    → pass_from p top ≡ pass_from p high
from_lower p top high le low =
    from_is p top (pass_from p high) low
    (λ w a b. from_all p high w a (omega (arith, le, b))) (λ u e. from_stop p high u e)

-- the last that is there is below the top
pub last_low : {X : Type 0} (at : ℕ → Option X) (top v : ℕ) (x : X)
    → last_some at top ≡ Some (v, x) → v < top
last_low at zero v x h = cc
last_low {X = X} at (suc n) v x h = go (at n) h (last_low at n v x)
  where
    go : (o : Option X)
        → option_or (option_map (λ y. (n, y)) o) (last_some at n) ≡ Some (v, x)
        → (last_some at n ≡ Some (v, x) → v < n) → v < suc n
    go (Some y) k more =
        let pair : ◌≡◌ {A = ℕ × X} (n, y) (v, x) = cc in
        let number : n ≡ v = ap (λ (z : ℕ × X). z.0) pair in
        omega arith
    go None k more = let l = more k in omega arith

-- what is kept of it, by where the nullified views begin
abbrev pub kept_from : ℕ → Option (ℕ × Commitment) → Option (ℕ × Commitment)
kept_from from o = option_and_then (λ x. if nat_lt x.0 (from - 1) then None else Some x) o

module _ (genesis : Commitment) (notes : List Note) (epoch : ℕ) where
  below : (top : ℕ)
      → parent_below genesis notes epoch top
      ≡ kept_from (nullified_from notes epoch top)
      (last_some (settled genesis notes epoch) top)
  below zero = refl
  below (suc n) =
      go (settled genesis notes epoch n) (nullified notes epoch n) refl (below n)
      (last_some (settled genesis notes epoch) n) refl
    where
      go : (o : Option Commitment) (b : Bool) → nullified notes epoch n ≡ b
          → parent_below genesis notes epoch n
          ≡ kept_from (nullified_from notes epoch n)
          (last_some (settled genesis notes epoch) n)
          → (rest : Option (ℕ × Commitment)) → last_some (settled genesis notes epoch) n ≡ rest
          → option_or (option_map (λ c. (n, c)) o)
          (if b then parent_below genesis notes epoch n else None)
          ≡ kept_from (if b then nullified_from notes epoch n else suc n)
          (option_or (option_map (λ c. (n, c)) o) (last_some (settled genesis notes epoch) n))
      go (Some c) true e more rest is =
          let low = from_le (nullified notes epoch) n in
          let test : nat_lt n (nullified_from notes epoch n - 1) ≡ false = grind (arith, nat_tests) in
          sym (ap (λ b. if b then None else Some (n, c)) test)
      go (Some c) false e more rest is =
          let test : nat_lt n (suc n - 1) ≡ false = grind (arith, nat_tests) in
          sym (ap (λ b. if b then None else Some (n, c)) test)
      go None true e more rest is = more
      go None false e more None is = sym (ap (kept_from (suc n)) is)
      go None false e more (Some x) is =
          let low : x.0 < n = last_low (settled genesis notes epoch) n x.0 x.1 is in
          let test : nat_lt x.0 (suc n - 1) ≡ true = grind (arith, nat_tests) in
          sym
          (ap (kept_from (suc n)) is
          ∙ ap (λ (b : Bool). if b then None else Some x) test)

  -- the parent below the top, where all views from there on are nullified
  pub parent_is : (top view : ℕ) → top ≤ view
      → (if all_nullified notes epoch (top - 1) view then parent_below genesis notes epoch top
      else None)
      ≡ (if nat_lt top (nullified_from notes epoch view) then None
      else kept_from (nullified_from notes epoch view)
      (last_some (settled genesis notes epoch) top))
  parent_is top view le =
      ap (λ b. if b then parent_below genesis notes epoch top else None)
      (all_between (nullified notes epoch) (top - 1) view)
      ∙ go top refl (cases_lt top (nullified_from notes epoch view))
    where
      neither : (b : Bool) → ◌≡◌ {A = Option (ℕ × Commitment)} (if b then None else None) None
      neither true = refl
      neither false = refl

      past_is : nat_lt top (nullified_from notes epoch view) ≡ true
          → (if nat_lt top (nullified_from notes epoch view) then None
          else kept_from (nullified_from notes epoch view)
          (last_some (settled genesis notes epoch) top))
          ≡ None
      past_is past =
          ap
          (λ b. if b then None
          else kept_from (nullified_from notes epoch view)
          (last_some (settled genesis notes epoch) top))
          past

      go : (n : ℕ) → top ≡ n
          → (top < nullified_from notes epoch view) ⊎ (nullified_from notes epoch view ≤ top)
          → (if nat_le (nullified_from notes epoch view - 1) (top - 1)
          then parent_below genesis notes epoch top else None)
          ≡ (if nat_lt top (nullified_from notes epoch view) then None
          else kept_from (nullified_from notes epoch view)
          (last_some (settled genesis notes epoch) top))
      go zero e (inl a) =
          let past : nat_lt top (nullified_from notes epoch view) ≡ true =
          grind (arith, nat_tests) in
          let none : parent_below genesis notes epoch top ≡ None =
          ap (parent_below genesis notes epoch) e in
          ap
          (λ (o : Option (ℕ × Commitment)).
          if nat_le (nullified_from notes epoch view - 1) (top - 1) then o else None)
          none
          ∙ (neither (nat_le (nullified_from notes epoch view - 1) (top - 1))
          ∙ sym (past_is past))
      go (suc n) e (inl a) =
          let over : nat_le (nullified_from notes epoch view - 1) (top - 1) ≡ false =
          grind (arith, nat_tests) in
          let past : nat_lt top (nullified_from notes epoch view) ≡ true =
          grind (arith, nat_tests) in
          ap (λ b. if b then parent_below genesis notes epoch top else None) over
          ∙ sym (past_is past)
      go n e (inr a) =
          let within : nat_le (nullified_from notes epoch view - 1) (top - 1) ≡ true =
          grind (arith, nat_tests) in
          let under : nat_lt top (nullified_from notes epoch view) ≡ false =
          grind (arith, nat_tests) in
          ap (λ b. if b then parent_below genesis notes epoch top else None) within
          ∙ (below top
          ∙ (ap (λ (m : ℕ). kept_from m (last_some (settled genesis notes epoch) top))
          (from_lower (nullified notes epoch) top view le a)
          ∙ sym
          (ap
          (λ b. if b then None
          else kept_from (nullified_from notes epoch view)
          (last_some (settled genesis notes epoch) top))
          under)))

  -- the same, in the code's terms
  whole : (beneath top from : ℕ) → top ≡ min beneath (view_of notes epoch)
      → from ≡ nullified_from notes epoch (view_of notes epoch)
      → parent_over genesis notes epoch beneath
      ≡ (if nat_lt top from then None
      else kept_from from (last_some (settled genesis notes epoch) top))
  whole beneath top from is begins =
      parent_is (min beneath (view_of notes epoch)) (view_of notes epoch) (omega arith)
      ∙ (ap
      (λ (n : ℕ). if nat_lt n (nullified_from notes epoch (view_of notes epoch)) then None
      else kept_from (nullified_from notes epoch (view_of notes epoch))
      (last_some (settled genesis notes epoch) n))
      (sym is)
      ∙ ap
      (λ (n : ℕ). if nat_lt top n then None
      else kept_from n (last_some (settled genesis notes epoch) top))
      (sym begins))

  -- a view that isn't nullified stands between
  pub over_past : (beneath top from : ℕ) → top ≡ min beneath (view_of notes epoch)
      → from ≡ nullified_from notes epoch (view_of notes epoch) → top < from
      → None ≡ parent_over genesis notes epoch beneath
  over_past beneath top from is begins past =
      let test : nat_lt top from ≡ true = grind (arith, nat_tests) in
      sym
      (whole beneath top from is begins
      ∙ ap
      (λ b. if b then None else kept_from from (last_some (settled genesis notes epoch) top))
      test)

  -- what is kept of the last settled view
  pub over_last : (beneath top from : ℕ) → top ≡ min beneath (view_of notes epoch)
      → from ≡ nullified_from notes epoch (view_of notes epoch) → from ≤ top
      → (o : Option (ℕ × Commitment)) → o ≡ last_some (settled genesis notes epoch) top
      → kept_from from o ≡ parent_over genesis notes epoch beneath
  over_last beneath top from is begins within o last =
      let test : nat_lt top from ≡ false = grind (arith, nat_tests) in
      ap (kept_from from) last
      ∙ sym
      (whole beneath top from is begins
      ∙ ap
      (λ b. if b then None else kept_from from (last_some (settled genesis notes epoch) top))
      test)

pub kept_under : (from view : ℕ) (c : Commitment) → view < from - 1
    → None ≡ kept_from from (Some (view, c))
kept_under from view c low =
    let test : nat_lt view (from - 1) ≡ true = grind (arith, nat_tests) in
    sym (ap (λ (b : Bool). if b then None else Some (view, c)) test)

pub kept_over : (from view : ℕ) (c : Commitment) → from - 1 ≤ view
    → Some (view, c) ≡ kept_from from (Some (view, c))
kept_over from view c high =
    let test : nat_lt view (from - 1) ≡ false = grind (arith, nat_tests) in
    sym (ap (λ (b : Bool). if b then None else Some (view, c)) test)

-- ---- the last settled view, with what the epoch builds on

or_none : {X : Type 0} (o : Option X) → option_or o None ≡ o
or_none None = refl
or_none (Some x) = refl

-- the last of some, by the last above 0 and by that at 0
last_apart : {X : Type 0} (f g : ℕ → Option X) → g 0 ≡ None → ((n : ℕ) → g (suc n) ≡ f (suc n))
    → (top : ℕ)
    → last_some f top
    ≡ option_or (last_some g top)
    (if nat_lt 0 top then option_map (λ x. (0, x)) (f 0) else None)
last_apart f g zeroth same zero = refl
last_apart {X = X} f g zeroth same (suc zero) =
    or_none (option_map (λ x. (0, x)) (f 0))
    ∙ ap
    (λ (o : Option X). option_or (option_or (option_map (λ x. (0, x)) o) None)
    (option_map (λ x. (0, x)) (f 0)))
    (sym zeroth)
last_apart {X = X} f g zeroth same (suc (suc n)) =
    ap
    (λ (o : Option X). option_or (option_map (λ x. (suc n, x)) o) (last_some f (suc n)))
    (sym (same n))
    ∙ go (g (suc n)) (last_apart f g zeroth same (suc n))
  where
    go : (o : Option X)
        → last_some f (suc n)
        ≡ option_or (last_some g (suc n))
        (if nat_lt 0 (suc n) then option_map (λ x. (0, x)) (f 0) else None)
        → option_or (option_map (λ x. (suc n, x)) o) (last_some f (suc n))
        ≡ option_or (option_or (option_map (λ x. (suc n, x)) o) (last_some g (suc n)))
        (if nat_lt 0 (suc (suc n)) then option_map (λ x. (0, x)) (f 0) else None)
    go (Some x) more = refl
    go None more =
        let first : nat_lt 0 (suc n) ≡ true = grind (arith, nat_tests) in
        let second : nat_lt 0 (suc (suc n)) ≡ true = grind (arith, nat_tests) in
        more
        ∙ ap
        (λ b. option_or (last_some g (suc n))
        (if b then option_map (λ x. (0, x)) (f 0) else None))
        (first ∙ sym second)

pub settled_apart : (genesis : Commitment) (notes : List Note) (epoch top : ℕ)
    → last_some (settled genesis notes epoch) top
    ≡ option_or (last_some (later_settled notes epoch) top)
    (if nat_lt 0 top then option_map (λ c. (0, c)) (settled genesis notes epoch 0) else None)
settled_apart genesis notes epoch top =
    last_apart (settled genesis notes epoch) (later_settled notes epoch) refl same top
  where
    same : (n : ℕ) → later_settled notes epoch (suc n) ≡ settled genesis notes epoch (suc n)
    same n =
        let test : (suc n == 0) ≡ false = ne_eqb (suc n) 0 (λ s. omega arith) in
        ap
        (λ b. if b then None
        else option_map (λ (p : Proposal). p.payload) (settler notes epoch (suc n)))
        test
        ∙ sym
        (ap
        (λ b. if b then epoch_parent genesis notes epoch
        else option_map (λ (p : Proposal). p.payload) (settler notes epoch (suc n)))
        test)
