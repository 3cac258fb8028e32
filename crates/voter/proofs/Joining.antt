-- Runs of numbers that pass, and how a number that passes too joins them.
use Rattle.std.proofs.Common.{◌≡◌, ◌⊎◌, inl, inr, ℕ, zero, suc, ◌+◌, ◌-◌, ◌<◌, ◌≤◌, Bool, true, false, if◌then◌else◌, refl, sym, ◌∙◌, ap, subst, arith}
use Rattle.std.proofs.lemmas.Bool.{cases_eq, cases_lt}
use Rattle.voter.specs.Runs.{AreEnds, IsWholeRun, pass_from}
use Rattle.voter.specs.declared.runs.Run.{Run}

pub from_le : (p : ℕ → Bool) (n : ℕ) → pass_from p n ≤ n
from_le p zero = omega arith
from_le p (suc n) = go (p n) (from_le p n)
  where
    go : (b : Bool) → pass_from p n ≤ n → (if b then pass_from p n else suc n) ≤ suc n
    go true h = omega arith
    go false h = omega arith

-- from there on all below the top pass
pub from_all : (p : ℕ → Bool) (n w : ℕ) → pass_from p n ≤ w → w < n → p w ≡ true
from_all p zero w a b = absurd (omega arith)
from_all p (suc n) w a b = go (p n) refl a (from_all p n w)
  where
    go : (t : Bool) → p n ≡ t → (if t then pass_from p n else suc n) ≤ w
        → (pass_from p n ≤ w → w < n → p w ≡ true) → p w ≡ true
    go true e h more = at (cases_eq w n)
      where
        at : (w ≡ n) ⊎ (w ≡ n → ⊥) → p w ≡ true
        at (inl s) = ap p s ∙ e
        at (inr s) = more h (omega arith)
    go false e h more = absurd (omega arith)

-- and the one before doesn't
pub from_stop : (p : ℕ → Bool) (n u : ℕ) → pass_from p n ≡ suc u → p u ≡ false
from_stop p zero u h = absurd (omega arith)
from_stop p (suc n) u h = go (p n) refl h (from_stop p n u)
  where
    go : (t : Bool) → p n ≡ t → (if t then pass_from p n else suc n) ≡ suc u
        → (pass_from p n ≡ suc u → p u ≡ false) → p u ≡ false
    go true e k more = more k
    go false e k more = let same : u ≡ n = omega arith in ap p same ∙ e

-- only one number is so
pub from_is : (p : ℕ → Bool) (n f : ℕ) → f ≤ n → ((w : ℕ) → f ≤ w → w < n → p w ≡ true)
    → ((u : ℕ) → f ≡ suc u → p u ≡ false) → pass_from p n ≡ f
from_is p zero f a all stop = omega arith
from_is p (suc n) f a all stop = go (p n) refl (cases_eq f (suc n)) (from_is p n f)
  where
    go : (t : Bool) → p n ≡ t → (f ≡ suc n) ⊎ (f ≡ suc n → ⊥)
        → (f ≤ n → ((w : ℕ) → f ≤ w → w < n → p w ≡ true)
        → ((u : ℕ) → f ≡ suc u → p u ≡ false) → pass_from p n ≡ f)
        → (if t then pass_from p n else suc n) ≡ f
    go true e (inl s) more = let no : true ≡ false = sym e ∙ stop n s in cc
    go true e (inr s) more = more (omega arith) (λ w l u. all w l (omega arith)) stop
    go false e (inl s) more = sym s
    go false e (inr s) more = let no : true ≡ false = sym (all n (omega arith) (omega arith)) ∙ e in cc

pub from_like : (p q : ℕ → Bool) (n : ℕ) → ((w : ℕ) → w < n → p w ≡ q w)
    → pass_from p n ≡ pass_from q n
from_like p q zero h = refl
from_like p q (suc n) h =
    ap (λ b. if b then pass_from p n else suc n) (h n (omega arith))
    ∙ ap (λ m. if q n then m else suc n) (from_like p q n (λ w l. h w (omega arith)))

clash : (b : Bool) → b ≡ true → b ≡ false → ⊥
clash b t f = let no : true ≡ false = sym t ∙ f in absurd cc

-- all behind v up to the last pass, and the one behind it doesn't
pub record Above (p : ℕ → Bool) (v last : ℕ) : Type 0 where
  pub high : v ≤ last
  pub above : (w : ℕ) → v < w → w ≤ last → p w ≡ true
  pub ended : p (suc last) ≡ false

-- the first of the run that ends right below v
pub side_below : (p : ℕ → Bool) (at : ℕ → Run) (v first : ℕ) → AreEnds p at → 0 < v
    → p v ≡ false → first ≡ (if p (v - 1) then (at (v - 1)).first else v)
    → first ≡ pass_from p v
side_below p at zero first are pos fresh is = absurd (omega arith)
side_below p at (suc u) first are pos fresh is =
    let here : suc u - 1 ≡ u = omega arith in
    is
    ∙ (ap (λ (n : ℕ). if p n then (at n).first else suc u) here
    ∙ go (p u) refl)
  where
    go : (b : Bool) → p u ≡ b
        → (if b then (at u).first else suc u) ≡ (if b then pass_from p u else suc u)
    go true e = are.firsts u e fresh
    go false e = refl

-- the last of the run that begins right above v
pub side_above : (p : ℕ → Bool) (at : ℕ → Run) (v last : ℕ) → AreEnds p at → p v ≡ false
    → last ≡ (if p (v + 1) then (at (v + 1)).last else v) → Above p v last
side_above p at v last are fresh is =
    go (p (suc v)) refl
    (is
    ∙ ap (λ (n : ℕ). if p n then (at n).last else v) (let here : v + 1 ≡ suc v = omega arith in here))
  where
    go : (b : Bool) → p (suc v) ≡ b → last ≡ (if b then (at (suc v)).last else v)
        → Above p v last
    go true e k =
        let run = are.lasts (suc v) e (ap (λ b. if b then pass_from p v else suc v) fresh) in
        subst (Above p v) (sym k)
        (record {
          high = let o = run.ordered in omega arith;
          above = λ w a b.
              from_all p (suc (at (suc v)).last) w (let r = run.within in omega arith)
              (omega arith);
          ended = run.ended;
        })
    go false e k =
        subst (Above p v) (sym k)
        (record {
          high = omega arith;
          above = λ w a b. absurd (omega arith);
          ended = e;
        })

-- v passes too, and joins what passes at its sides to a run from first to last, at both ends of
-- which it is put
pub record Joins (p q : ℕ → Bool) (old new : ℕ → Run) (v first last : ℕ) : Type 0 where
  pub fresh : p v ≡ false
  pub here : q v ≡ true
  pub others : (w : ℕ) → (w ≡ v → ⊥) → q w ≡ p w
  pub low : first ≡ pass_from p v
  pub side : Above p v last
  pub first_put : (new last).first ≡ first
  pub last_put : (new first).last ≡ last
  pub kept : (w : ℕ) → (w ≡ first → ⊥) → (w ≡ last → ⊥) → new w ≡ old w

module _ (p q : ℕ → Bool) (old new : ℕ → Run) (v first last : ℕ) (are : AreEnds p old)
    (join : Joins p q old new v first last) where
  low_le : first ≤ v
  low_le = let l = join.low in let m = from_le p v in omega arith

  -- what passes in the new run
  within : (w : ℕ) → first ≤ w → w ≤ last → q w ≡ true
  within w a b = go (cases_eq w v) (cases_lt w v)
    where
      go : (w ≡ v) ⊎ (w ≡ v → ⊥) → (w < v) ⊎ (v ≤ w) → q w ≡ true
      go (inl e) t = ap q e ∙ join.here
      go (inr e) (inl t) =
          let l = join.low in
          join.others w e ∙ from_all p v w (omega arith) t
      go (inr e) (inr t) = join.others w e ∙ join.side.above w (omega arith) b

  below : (u : ℕ) → first ≡ suc u → q u ≡ false
  below u e =
      let l = low_le in
      join.others u (omega arith) ∙ from_stop p v u (sym join.low ∙ e)

  behind : q (suc last) ≡ false
  behind = let h = join.side.high in join.others (suc last) (omega arith) ∙ join.side.ended

  whole : IsWholeRun q first last
  whole = record {
    ordered = let a = low_le in let b = join.side.high in omega arith;
    within =
        from_is q (suc last) first (let a = low_le in let b = join.side.high in omega arith)
        (λ w a b. within w a (omega arith)) below;
    ended = behind;
  }

  -- a number below the new run, and one above it
  under_same : (w : ℕ) → w < first → q w ≡ p w
  under_same w a = let l = low_le in join.others w (omega arith)

  over_same : (w : ℕ) → last < w → q w ≡ p w
  over_same w a = let l = join.side.high in join.others w (omega arith)

  -- the run of a number above the new run
  from_above : (w : ℕ) → last < w → p w ≡ true → pass_from q w ≡ pass_from p w
  from_above w up here =
      from_is q w (pass_from p w) (from_le p w)
      (λ u a b. over_same u (omega (arith, over)) ∙ from_all p w u a b)
      (λ u e. over_same u (omega (arith, over)) ∙ from_stop p w u e)
    where
      -- it begins behind what ends the new run
      over : suc last < pass_from p w
      over = at (cases_lt (suc last) (pass_from p w)) (cases_eq (suc last) w)
        where
          at : (suc last < pass_from p w) ⊎ (pass_from p w ≤ suc last)
              → (suc last ≡ w) ⊎ (suc last ≡ w → ⊥) → suc last < pass_from p w
          at (inl a) b = a
          at (inr a) (inl s) = absurd (clash (p w) here (ap p (sym s) ∙ join.side.ended))
          at (inr a) (inr s) =
              absurd (clash (p (suc last)) (from_all p w (suc last) a (omega arith)) join.side.ended)

  first_of : (w : ℕ) → q w ≡ true → q (suc w) ≡ false → (w < first) ⊎ (first ≤ w)
      → (w ≡ last) ⊎ (w ≡ last → ⊥) → (w < last) ⊎ (last ≤ w) → (new w).first ≡ pass_from q w
  first_of w at next (inl a) (inl e) c =
      let l = low_le in let h = join.side.high in absurd (omega arith)
  first_of w at next (inl a) (inr e) c =
      let l = low_le in
      let out : w ≡ first → ⊥ = λ s. omega arith in
      let past : p (suc w) ≡ false =
      sym (join.others (suc w) (λ s. clash (q (suc w)) (ap q s ∙ join.here) next)) ∙ next in
      ap (λ (r : Run). r.first) (join.kept w out e)
      ∙ (are.firsts w (sym (under_same w a) ∙ at) past
      ∙ from_like p q w (λ u b. sym (under_same u (omega arith))))
  first_of w at next (inr a) (inl e) c =
      ap (λ (u : ℕ). (new u).first) e
      ∙ (join.first_put
      ∙ (sym whole.within ∙ (from_here last behind_last ∙ ap (pass_from q) (sym e))))
    where
      behind_last : q last ≡ true
      behind_last = ap q (sym e) ∙ at

      from_here : (n : ℕ) → q n ≡ true → pass_from q (suc n) ≡ pass_from q n
      from_here n t = ap (λ b. if b then pass_from q n else suc n) t
  first_of w at next (inr a) (inr e) (inl c) =
      absurd (clash (q (suc w)) (within (suc w) (omega arith) (omega arith)) next)
  first_of w at next (inr a) (inr e) (inr c) =
      let l = low_le in
      let h = join.side.high in
      let up : last < w = omega arith in
      let out : w ≡ first → ⊥ = λ s. omega arith in
      let here : p w ≡ true = sym (over_same w up) ∙ at in
      let past : p (suc w) ≡ false = sym (over_same (suc w) (omega arith)) ∙ next in
      ap (λ (r : Run). r.first) (join.kept w out e)
      ∙ (are.firsts w here past ∙ sym (from_above w up here))

  -- no run begins within the new one
  inside : (w : ℕ) → pass_from q w ≡ w → (w ≡ first → ⊥) → first ≤ w → w ≤ last → ⊥
  inside zero from e a c = e (omega arith)
  inside (suc u) from e a c =
      clash (q u) (within u (omega arith) (omega arith)) (from_stop q (suc u) u from)

  -- a run below the new one stays
  run_below : (w n : ℕ) → w < first → IsWholeRun p w n → IsWholeRun q w n
  run_below w n a run = record {
    ordered = run.ordered;
    within = from_like q p (suc n) (λ u b. under_same u (omega (arith, under))) ∙ run.within;
    ended = under_same (suc n) under ∙ run.ended;
  }
    where
      -- it ends below the new run
      under : suc n < first
      under = at (cases_lt n v) (cases_eq (suc n) v)
        where
          at : (n < v) ⊎ (v ≤ n) → (suc n ≡ v) ⊎ (suc n ≡ v → ⊥) → suc n < first
          at (inr b) s =
              let l = low_le in
              let r = run.within in
              absurd (clash (p v) (from_all p (suc n) v (omega arith) (omega arith)) join.fresh)
          at (inl b) (inl s) =
              let same : first ≡ w = join.low ∙ (ap (pass_from p) (sym s) ∙ run.within) in
              absurd (omega arith)
          at (inl b) (inr s) = tail (cases_lt (suc n) first)
            where
              tail : (suc n < first) ⊎ (first ≤ suc n) → suc n < first
              tail (inl t) = t
              tail (inr t) =
                  let l = join.low in
                  absurd (clash (p (suc n)) (from_all p v (suc n) (omega arith) (omega arith)) run.ended)

  run_above : (w n : ℕ) → last < w → IsWholeRun p w n → IsWholeRun q w n
  run_above w n a run = record {
    ordered = run.ordered;
    within =
        from_is q (suc n) w (let o = run.ordered in omega arith)
        (λ u b c. over_same u (omega arith) ∙ from_all p (suc n) u (let r = run.within in omega arith) c)
        (λ u e. stop u e);
    ended = let o = run.ordered in over_same (suc n) (omega arith) ∙ run.ended;
  }
    where
      stop : (u : ℕ) → w ≡ suc u → q u ≡ false
      stop u e = at (cases_eq last u)
        where
          at : (last ≡ u) ⊎ (last ≡ u → ⊥) → q u ≡ false
          at (inl s) =
              let r = run.within in
              let o = run.ordered in
              absurd (clash (p w) (from_all p (suc n) w (omega arith) (omega arith)) (ap p (e ∙ ap suc (sym s)) ∙ join.side.ended))
          at (inr s) = over_same u (omega arith) ∙ from_stop p (suc n) u (run.within ∙ e)

  last_of : (w : ℕ) → q w ≡ true → pass_from q w ≡ w → (w ≡ first) ⊎ (w ≡ first → ⊥)
      → (w < first) ⊎ (first ≤ w) → (last < w) ⊎ (w ≤ last) → IsWholeRun q w (new w).last
  last_of w at from (inl e) b c =
      subst (λ n. IsWholeRun q w n) (sym (ap (λ (u : ℕ). (new u).last) e ∙ join.last_put))
      (subst (λ n. IsWholeRun q n last) (sym e) whole)
  last_of w at from (inr e) (inl a) c =
      let l = low_le in
      let h = join.side.high in
      let out : w ≡ last → ⊥ = λ s. omega arith in
      let same : pass_from p w ≡ w =
      from_like p q w (λ u b. sym (under_same u (omega arith))) ∙ from in
      let run = are.lasts w (sym (under_same w a) ∙ at) same in
      subst (λ n. IsWholeRun q w n) (sym (ap (λ (r : Run). r.last) (join.kept w e out)))
      (run_below w (old w).last a run)
  last_of w at from (inr e) (inr a) (inr c) =
      absurd (inside w from e a c)
  last_of w at from (inr e) (inr a) (inl c) =
      let l = low_le in
      let h = join.side.high in
      let out : w ≡ last → ⊥ = λ s. omega arith in
      let here : p w ≡ true = sym (over_same w c) ∙ at in
      let same : pass_from p w ≡ w = sym (from_above w c here) ∙ from in
      let run = are.lasts w here same in
      subst (λ n. IsWholeRun q w n) (sym (ap (λ (r : Run). r.last) (join.kept w e out)))
      (run_above w (old w).last c run)

  -- the others stay
  pub joined : AreEnds q new
  joined = record {
    firsts = λ w at next. first_of w at next (cases_lt w first) (cases_eq w last) (cases_lt w last);
    lasts = λ w at from. last_of w at from (cases_eq w first) (cases_lt w first) (cases_lt last w);
  }
