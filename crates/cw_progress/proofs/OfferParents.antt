-- The best parent that a member's notes tell of, and that more notes leave it one.
use Rattle.std.proofs.Common.{◌≡◌, ℕ, zero, suc, ◌<◌, Bool, true, false, cond, List, Option, Some, None, option_and_then, option_map, refl, sym, ◌∙◌, ap, subst, inl, inr, ◌⊎◌, ◌≤◌, arith}
use Rattle.std.specs.Option.{option_or}
use Rattle.std.proofs.lemmas.Bool.{cases_lt, cond-true}
use Rattle.cw_types.specs.declared.commitment.Commitment.{Commitment}
use Rattle.cw_types.specs.declared.note.Note.{Note}
use Rattle.cw_types.specs.declared.vote.Vote.TheVariants.{Nullify}
use Rattle.cw_types.specs.Block.{Block}
use Rattle.cw_rules.specs.Direct.{best_parent}
use Rattle.cw_rules.specs.Held.{held}
use Rattle.cw_rules.specs.Notes.{is_cert, nullified, settled}
use Rattle.cw_rules.specs.Rules.{Rules, genesis_commitment}
use Rattle.cw_rules.proofs.Lists.{and_then_some, map_some}
use Rattle.cw_rules.proofs.NoteLemmas.{any_front}
use Rattle.cw_progress.proofs.Rests.{or_split}
use Rattle.cw_progress.proofs.Stages.{Later, later_held, later_settled}

-- a parent, with its payload and its block
abbrev pub Best : Type 0
Best = ℕ × Commitment × Block

-- the notes tell of a parent below the view
abbrev pub HasBest : Rules → List Note → ℕ → Type 0
HasBest r notes view = (best : Best) × (best_parent r notes 0 view ≡ Some best)

-- what such a parent is
pub record IsBest (r : Rules) (notes : List Note) (view : ℕ) (best : Best) : Type 0 where
  pub below : best.0 < view
  pub settles : settled (genesis_commitment r) notes 0 best.0 ≡ Some best.1
  pub holds : held r notes best.1 ≡ Some best.2
  pub nulls : (x : ℕ) → best.0 < x → x < view → nullified notes 0 x ≡ true

module _ (r : Rules) where
  -- the parent in that view
  abbrev at_view : List Note → ℕ → Option Best
  at_view notes view =
      option_and_then (λ c. option_map (λ a. (view, c, a)) (held r notes c))
      (settled (genesis_commitment r) notes 0 view)

  abbrev below_view : List Note → ℕ → Option Best
  below_view notes view =
      cond (nullified notes 0 view) (best_parent r notes 0 view) None

  tells_view : (notes : List Note) (view : ℕ) (best : Best)
      → at_view notes view ≡ Some best
      → (best.0 ≡ view) × (settled (genesis_commitment r) notes 0 view ≡ Some best.1)
      × (held r notes best.1 ≡ Some best.2)
  tells_view notes view best h =
      let (c, s, f) =
      and_then_some (λ c. option_map (λ a. (view, c, a)) (held r notes c))
      (settled (genesis_commitment r) notes 0 view) best h in
      let (a, t, e) =
      map_some (λ (a : Block). (view, c, a)) (held r notes c) best f in
      subst
      (λ (x : Best). (x.0 ≡ view)
      × (settled (genesis_commitment r) notes 0 view ≡ Some x.1)
      × (held r notes x.1 ≡ Some x.2))
      e (refl, s, t)

  tells_below : (notes : List Note) (view : ℕ) (best : Best)
      → below_view notes view ≡ Some best
      → (nullified notes 0 view ≡ true) × (best_parent r notes 0 view ≡ Some best)
  tells_below notes view best h = go (nullified notes 0 view) refl h
    where
      go : (b : Bool) → nullified notes 0 view ≡ b
          → cond b (best_parent r notes 0 view) None ≡ Some best
          → (nullified notes 0 view ≡ true) × (best_parent r notes 0 view ≡ Some best)
      go true e h = (e, h)
      go false e h = cc

  pub best_tells : (notes : List Note) (view : ℕ) (best : Best)
      → best_parent r notes 0 view ≡ Some best → IsBest r notes view best
  best_tells notes zero best h = cc
  best_tells notes (suc view) best h =
      go (or_split (at_view notes view) (below_view notes view) best h)
      (best_tells notes view best)
    where
      by_here : (best.0 ≡ view)
          × (settled (genesis_commitment r) notes 0 view ≡ Some best.1)
          × (held r notes best.1 ≡ Some best.2)
          → IsBest r notes (suc view) best
      by_here (is, s, t) = record {
        below = omega (arith, is);
        settles =
            subst (λ x. settled (genesis_commitment r) notes 0 x ≡ Some best.1) (sym is) s;
        holds = t;
        nulls = λ x low lt. absurd (omega (arith, is, low, lt));
      }

      by_more : nullified notes 0 view ≡ true → IsBest r notes view best
          → IsBest r notes (suc view) best
      by_more null k = record {
        below = let e = k.below in omega (arith, e);
        settles = k.settles;
        holds = k.holds;
        nulls = λ x low lt. by_place x low lt (cases_lt x view);
      }
        where
          by_place : (x : ℕ) → best.0 < x → x < suc view → (x < view) ⊎ (view ≤ x)
              → nullified notes 0 x ≡ true
          by_place x low lt (inl less) = k.nulls x low less
          by_place x low lt (inr more) =
              let same : view ≡ x = omega (arith, lt, more) in
              subst (λ y. nullified notes 0 y ≡ true) same null

      go : (at_view notes view ≡ Some best)
          ⊎ ((at_view notes view ≡ None) × (below_view notes view ≡ Some best))
          → (best_parent r notes 0 view ≡ Some best → IsBest r notes view best)
          → IsBest r notes (suc view) best
      go (inl e) later = by_here (tells_view notes view best e)
      go (inr e) later =
          let (null, f) = tells_below notes view best e.1 in by_more null (later f)

  -- a settled view whose payload is held
  pub best_here : (notes : List Note) (view : ℕ) (c : Commitment) (a : Block)
      → settled (genesis_commitment r) notes 0 view ≡ Some c → held r notes c ≡ Some a
      → HasBest r notes (suc view)
  best_here notes view c a s h = (
    (view, c, a),
    ap (λ o. option_or o (below_view notes view))
        (ap (option_and_then (λ d. option_map (λ x. (view, d, x)) (held r notes d))) s
        ∙ ap (option_map (λ (x : Block). (view, c, x))) h),
  )

  -- a nullified view above another
  pub best_over : (notes : List Note) (view : ℕ) → nullified notes 0 view ≡ true
      → HasBest r notes view → HasBest r notes (suc view)
  best_over notes view null (best, h) = go (at_view notes view) refl
    where
      below : below_view notes view ≡ Some best
      below =
          cond-true (nullified notes 0 view) (best_parent r notes 0 view) None null ∙ h

      go : (o : Option Best) → at_view notes view ≡ o → HasBest r notes (suc view)
      go None e = (best, ap (λ o. option_or o (below_view notes view)) e ∙ below)
      go (Some y) e = (y, ap (λ o. option_or o (below_view notes view)) e)

  pub null_later : (xs ys : List Note) → Later xs ys → (view : ℕ)
      → nullified xs 0 view ≡ true → nullified ys 0 view ≡ true
  null_later xs ys k view h =
      subst (λ ns. nullified ns 0 view ≡ true) (sym k.joined)
      (any_front (is_cert (Nullify 0 view)) xs k.more h)

  pub best_later : (xs ys : List Note) → Later xs ys → (view : ℕ) → HasBest r xs view
      → HasBest r ys view
  best_later xs ys k zero (best, h) = cc
  best_later xs ys k (suc view) (best, h) =
      go (or_split (at_view xs view) (below_view xs view) best h) (best_later xs ys k view)
    where
      go : (at_view xs view ≡ Some best)
          ⊎ ((at_view xs view ≡ None) × (below_view xs view ≡ Some best))
          → (HasBest r xs view → HasBest r ys view) → HasBest r ys (suc view)
      go (inl e) later =
          let (is, s, t) = tells_view xs view best e in
          best_here ys view best.1 best.2
          (later_settled (genesis_commitment r) xs ys k 0 view best.1 s)
          (later_held r xs ys k best.1 best.2 t)
      go (inr e) later =
          let (null, f) = tells_below xs view best e.1 in
          best_over ys view (null_later xs ys k view null) (later (best, f))
