-- The best parent of the rules, by the parents that a tally gives.
use Rattle.std.proofs.Common.{◌≡◌, ◌+◌, ◌-◌, ◌<◌, ◌≤◌, ◌==◌, ◌⊎◌, inl, inr, ℕ, zero, suc, Bool, true, false, if◌then◌else◌, min, nat_lt, List, Option, Some, None, option_map, refl, sym, ◌∙◌, ap, arith, eqb-true, ltb-true, ltb-false}
use Rattle.std.specs.Option.{option_or}
use Rattle.std.proofs.lemmas.Bool.{cases_Bool}
use Rattle.std.proofs.lemmas.Bool.Decides.{nat_tests}
use Rattle.std.proofs.lemmas.Option.{same_Some}
use Rattle.cw_types.specs.Block.{Block}
use Rattle.cw_types.specs.declared.commitment.Commitment.{Commitment}
use Rattle.cw_types.specs.declared.note.Note.{Note}
use Rattle.cw_rules.specs.Direct.{best_parent}
use Rattle.cw_rules.specs.Held.{held}
use Rattle.cw_rules.specs.Notes.{nullified, settled, view_of}
use Rattle.cw_rules.specs.Owed.{all_nullified}
use Rattle.cw_rules.specs.Rules.{Rules, genesis_commitment}
use Rattle.cw_rules.proofs.Lists.{all_range, one_test, range_all}
use Rattle.voter.specs.Owing.{parent_below, parent_over}
use Rattle.voter.specs.Standing.{best_from}

both_false : {X : Type 0} (b : Bool) → ◌≡◌ {A = Option X} (if b then None else None) None
both_false true = refl
both_false false = refl

-- v, settled as c, is the greatest settled view below top, above which all are nullified
pub record Below (r : Rules) (notes : List Note) (epoch top v : ℕ) (c : Commitment) : Type 0 where
  pub low : v < top
  pub there : settled (genesis_commitment r) notes epoch v ≡ Some c
  pub best : best_parent r notes epoch top ≡ best_parent r notes epoch (suc v)
  pub between : (w : ℕ) → v < w → w < top → nullified notes epoch w ≡ true

-- what a parent that is given tells
pub record Given (r : Rules) (notes : List Note) (epoch top view v : ℕ)
    (c : Commitment) : Type 0 where
  pub all : all_nullified notes epoch (top - 1) view ≡ true
  pub below : Below r notes epoch top v c

module _ (r : Rules) (notes : List Note) (epoch : ℕ) where
  found : (top v : ℕ) (c : Commitment)
      → parent_below (genesis_commitment r) notes epoch top ≡ Some (v, c)
      → Below r notes epoch top v c
  found zero v c h = cc
  found (suc n) v c h =
      go (settled (genesis_commitment r) notes epoch n) refl (nullified notes epoch n) refl h
      (found n v c)
    where
      go : (o : Option Commitment) → settled (genesis_commitment r) notes epoch n ≡ o → (b : Bool)
          → nullified notes epoch n ≡ b
          → option_or (option_map (λ d. (n, d)) o)
          (if b then parent_below (genesis_commitment r) notes epoch n else None)
          ≡ Some (v, c)
          → (parent_below (genesis_commitment r) notes epoch n ≡ Some (v, c)
          → Below r notes epoch n v c)
          → Below r notes epoch (suc n) v c
      go (Some d) e b f k more =
          let here : ◌≡◌ {A = ℕ × Commitment} (n, d) (v, c) = same_Some (n, d) (v, c) k in
          let number : n ≡ v = ap (λ (q : ℕ × Commitment). q.0) here in
          let payload : d ≡ c = ap (λ (q : ℕ × Commitment). q.1) here in
          record {
            low = omega arith;
            there =
                ap (settled (genesis_commitment r) notes epoch) (sym number)
                ∙ (e ∙ ap Some payload);
            best = ap (λ m. best_parent r notes epoch (suc m)) number;
            between = λ w a b. absurd (omega arith);
          }
      go None e true f k more =
          let m = more k in
          let low : v < n = m.low in
          record {
            low = omega arith;
            there = m.there;
            best = rw (e, f) m.best;
            between = λ w a b. at w (cases_Bool (w == n)) b (m.between w a);
          }
        where
          at : (w : ℕ) → ((w == n) ≡ true) ⊎ ((w == n) ≡ false) → w < suc n
              → (w < n → nullified notes epoch w ≡ true) → nullified notes epoch w ≡ true
          at w (inl x) b others = ap (nullified notes epoch) (eqb-true w n x) ∙ f
          at w (inr x) b others = let under : w < n = grind (arith, nat_tests) in others under
      go None e false f k more = cc

  missing : (top : ℕ) → parent_below (genesis_commitment r) notes epoch top ≡ None
      → best_parent r notes epoch top ≡ None
  missing zero h = refl
  missing (suc n) h =
      go (settled (genesis_commitment r) notes epoch n) refl (nullified notes epoch n) refl h
      (missing n)
    where
      go : (o : Option Commitment) → settled (genesis_commitment r) notes epoch n ≡ o → (b : Bool)
          → nullified notes epoch n ≡ b
          → option_or (option_map (λ d. (n, d)) o)
          (if b then parent_below (genesis_commitment r) notes epoch n else None)
          ≡ None
          → (parent_below (genesis_commitment r) notes epoch n ≡ None
          → best_parent r notes epoch n ≡ None)
          → best_parent r notes epoch (suc n) ≡ None
      go (Some d) e b f k more = cc
      go None e true f k more = rw (e, f) (more k)
      go None e false f k more = rw (e, f) refl

  at_held : (top v : ℕ) (c : Commitment) (a : Block) → Below r notes epoch top v c
      → held r notes c ≡ Some a → best_parent r notes epoch top ≡ Some (v, c, a)
  at_held top v c a b h = b.best ∙ rw b.there (rw h refl)

  at_missing : (top v : ℕ) (c : Commitment) → Below r notes epoch top v c → held r notes c ≡ None
      → best_parent r notes epoch top
      ≡ (if nullified notes epoch v then best_parent r notes epoch v else None)
  at_missing top v c b h = b.best ∙ rw b.there (rw h refl)

  -- the views from v on are nullified exactly where v is
  all_from : (top v view : ℕ) (c : Commitment) → Below r notes epoch top v c → top ≤ view → 0 < v
      → all_nullified notes epoch (top - 1) view ≡ true
      → all_nullified notes epoch (v - 1) view ≡ nullified notes epoch v
  all_from top v view c b le pos all =
      one_test (all_nullified notes epoch (v - 1) view) (nullified notes epoch v) first each
    where
      low : v < top
      low = b.low

      first : all_nullified notes epoch (v - 1) view ≡ true → nullified notes epoch v ≡ true
      first h =
          range_all (nullified notes epoch) (v - 1 + 1) (view - (v - 1) - 1) h v
          (omega (arith, low)) (omega (arith, low))

      each : nullified notes epoch v ≡ true → all_nullified notes epoch (v - 1) view ≡ true
      each h =
          all_range (nullified notes epoch) (v - 1 + 1) (view - (v - 1) - 1)
          (λ w l u. at w (omega (arith, l)) (omega (arith, u, l, low)) (cases_Bool (w == v))
          (cases_Bool (nat_lt w top)))
        where
          at : (w : ℕ) → v ≤ w → w < view → ((w == v) ≡ true) ⊎ ((w == v) ≡ false)
              → ((nat_lt w top) ≡ true) ⊎ ((nat_lt w top) ≡ false) → nullified notes epoch w ≡ true
          at w l u (inl e) o = ap (nullified notes epoch) (eqb-true w v e) ∙ h
          at w l u (inr e) (inl o) =
              let over : v < w = grind (arith, nat_tests) in b.between w over (ltb-true w top o)
          at w l u (inr e) (inr o) =
              let past : top ≤ w = omega (arith, ltb-false w top o) in
              range_all (nullified notes epoch) (top - 1 + 1) (view - (top - 1) - 1) all w
              (omega (arith, low, past)) (omega (arith, low, past, u))

  -- the best parent from v on, where that one isn't held
  next : (top v view : ℕ) (c : Commitment) → Below r notes epoch top v c → top ≤ view
      → all_nullified notes epoch (top - 1) view ≡ true
      → (if nullified notes epoch v then best_parent r notes epoch v else None)
      ≡ (if all_nullified notes epoch (v - 1) view then best_parent r notes epoch v else None)
  next top zero view c b le all =
      both_false (nullified notes epoch 0)
      ∙ sym (both_false (all_nullified notes epoch (0 - 1) view))
  next top (suc v) view c b le all =
      ap (λ t. if t then best_parent r notes epoch (suc v) else None)
      (sym (all_from top (suc v) view c b le (omega arith) all))

  given : (top view v : ℕ) (c : Commitment)
      → (if all_nullified notes epoch (top - 1) view
      then parent_below (genesis_commitment r) notes epoch top else None)
      ≡ Some (v, c)
      → Given r notes epoch top view v c
  given top view v c h = go (cases_Bool (all_nullified notes epoch (top - 1) view))
    where
      go : (all_nullified notes epoch (top - 1) view ≡ true)
          ⊎ (all_nullified notes epoch (top - 1) view ≡ false)
          → Given r notes epoch top view v c
      go (inl e) = record { all = e; below = found top v c (rw e at h) }
      go (inr e) = let none : ◌≡◌ {A = Option (ℕ × Commitment)} None (Some (v, c)) = rw e at h in cc

  -- the views between the last below one and that one are none
  pub best_start : best_parent r notes epoch (view_of notes epoch)
      ≡ best_from r notes epoch (view_of notes epoch)
  best_start = go (view_of notes epoch)
    where
      go : (view : ℕ)
          → best_parent r notes epoch view
          ≡ (if all_nullified notes epoch (min view view - 1) view
          then best_parent r notes epoch (min view view) else None)
      go view =
          let same : min view view ≡ view = omega arith in
          let all : all_nullified notes epoch (view - 1) view ≡ true =
          all_range (nullified notes epoch) (view - 1 + 1) (view - (view - 1) - 1)
          (λ w l u. absurd (omega (arith, l, u))) in
          rw (same, all) refl

  pub best_none : (below : ℕ) → parent_over (genesis_commitment r) notes epoch below ≡ None
      → best_from r notes epoch below ≡ None
  best_none below = go (min below (view_of notes epoch)) (view_of notes epoch)
    where
      go : (top view : ℕ)
          → (if all_nullified notes epoch (top - 1) view
          then parent_below (genesis_commitment r) notes epoch top else None)
          ≡ None
          → (if all_nullified notes epoch (top - 1) view then best_parent r notes epoch top
          else None)
          ≡ None
      go top view h = at (cases_Bool (all_nullified notes epoch (top - 1) view))
        where
          at : (all_nullified notes epoch (top - 1) view ≡ true)
              ⊎ (all_nullified notes epoch (top - 1) view ≡ false)
              → (if all_nullified notes epoch (top - 1) view then best_parent r notes epoch top
              else None)
              ≡ None
          at (inl e) = rw e (missing top (rw e at h))
          at (inr e) = rw e refl

  pub best_held : (below v : ℕ) (c : Commitment) (a : Block)
      → parent_over (genesis_commitment r) notes epoch below ≡ Some (v, c) → held r notes c ≡ Some a
      → best_from r notes epoch below ≡ Some (v, c, a)
  best_held below v c a h k =
      let g = given (min below (view_of notes epoch)) (view_of notes epoch) v c h in
      ap (λ t. if t then best_parent r notes epoch (min below (view_of notes epoch)) else None)
      g.all
      ∙ at_held (min below (view_of notes epoch)) v c a g.below k

  pub best_next : (below v : ℕ) (c : Commitment)
      → parent_over (genesis_commitment r) notes epoch below ≡ Some (v, c) → held r notes c ≡ None
      → best_from r notes epoch below ≡ best_from r notes epoch v
  best_next below v c h k =
      go (min below (view_of notes epoch)) (view_of notes epoch) (omega arith)
      (given (min below (view_of notes epoch)) (view_of notes epoch) v c h)
    where
      go : (top view : ℕ) → top ≤ view → Given r notes epoch top view v c
          → (if all_nullified notes epoch (top - 1) view then best_parent r notes epoch top
          else None)
          ≡ (if all_nullified notes epoch (min v view - 1) view
          then best_parent r notes epoch (min v view) else None)
      go top view le g =
          let low : v < top = g.below.low in
          let same : min v view ≡ v = omega (arith, low, le) in
          let here : (if all_nullified notes epoch (top - 1) view then best_parent r notes epoch top
          else None)
          ≡ best_parent r notes epoch top =
          rw g.all refl in
          here
          ∙ (at_missing top v c g.below k
          ∙ (next top v view c g.below le g.all
          ∙ ap
          (λ m. if all_nullified notes epoch (m - 1) view
          then best_parent r notes epoch m else None)
          (sym same)))

  pub parent_falls : (below v : ℕ) (c : Commitment)
      → parent_over (genesis_commitment r) notes epoch below ≡ Some (v, c) → v < below
  parent_falls below v c h =
      let g = given (min below (view_of notes epoch)) (view_of notes epoch) v c h in
      let low : v < min below (view_of notes epoch) = g.below.low in
      omega (arith, low)
