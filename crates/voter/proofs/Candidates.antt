-- The first proposal that the rules certify, among those that a tally gives.
use Rattle.std.proofs.Common.{◌≡◌, ◌&&◌, ◌+◌, ◌||◌, ℕ, Bool, true, false, not, List, [], ◌∷◌, ◌++◌, length, map, take, filter, Option, option_map, refl, sym, ◌∙◌, ap, arith, append_assoc}
use Rattle.std.specs.List.{enumerate_from, find, list_any}
use Rattle.std.proofs.lemmas.List.{length-append}
use Rattle.std.proofs.lemmas.List.Folds.{list_any-append}
use Rattle.std.proofs.Math.Seq.{take-append_seam}
use Rattle.cw_types.specs.Same.{same_proposal}
use Rattle.cw_types.specs.declared.note.Note.{Note}
use Rattle.cw_types.specs.declared.vote.Vote.TheVariants.{Notarize}
use Rattle.cw_rules.specs.Accepted.{first_some}
use Rattle.cw_rules.specs.Fits.{block_fits}
use Rattle.cw_rules.specs.Notes.{has_cert, has_certified}
use Rattle.cw_rules.specs.Owed.{certified_owed, named_proposals, when}
use Rattle.cw_rules.specs.Rules.{Rules}
use Rattle.cw_types.proofs.Same.{same_proposal-true}
use Rattle.voter.specs.Known.{Known, known_state}
use Rattle.voter.specs.Owing as owing
use Rattle.voter.specs.Owing.{is_candidate}

module _ {X : Type 0} (same : X → X → Bool) (is : (a b : X) → same a b ≡ true → a ≡ b)
    (passes fits : X → Bool) (all : List X) where
  -- both tests
  abbrev both : X → Bool
  both x = passes x && fits x

  -- it passes the first one, and isn't named before
  abbrev candidate : ℕ × X → Bool
  candidate at = passes at.1 && not (list_any (same at.1) (take at.0 all))

  -- what is named before, where nothing passed both, doesn't pass both
  named_again : (y : X) (pre : List X) → list_any (same y) pre ≡ true → list_any both pre ≡ false
      → both y ≡ false
  named_again y [] h n = cc
  named_again y (x ∷ pre) h n = go (same y x) (both x) refl refl h n (named_again y pre)
    where
      go : (s b : Bool) → same y x ≡ s → both x ≡ b → (s || list_any (same y) pre) ≡ true
          → (b || list_any both pre) ≡ false
          → (list_any (same y) pre ≡ true → list_any both pre ≡ false → both y ≡ false)
          → both y ≡ false
      go true true e f k m more = cc
      go true false e f k m more = ap both (is y x e) ∙ f
      go false true e f k m more = cc
      go false false e f k m more = more k m

  -- the first that passes both is the first candidate that passes the second
  pub firsts : (n : ℕ) (pre ys : List X) → n ≡ length pre → pre ++ ys ≡ all → list_any both pre ≡ false
      → find both ys
      ≡ find fits (map (λ (at : ℕ × X). at.1) (filter candidate (enumerate_from n ys)))
  firsts n pre [] e f g = refl
  firsts n pre (y ∷ ys) e f g =
      go (passes y) (fits y) (list_any (same y) (take n all)) refl refl refl
      (λ h. firsts (n + 1) (pre ++ y ∷ []) ys longer (append_assoc pre (y ∷ []) ys ∙ f)
      (still h))
    where
      before : take n all ≡ pre
      before =
          ap (take n) (sym f) ∙ (ap (λ k. take k (pre ++ y ∷ ys)) e ∙ take-append_seam pre (y ∷ ys))

      longer : n + 1 ≡ length (pre ++ y ∷ [])
      longer = let l = length-append pre (y ∷ []) in omega (arith, e, l)

      still : both y ≡ false → list_any both (pre ++ y ∷ []) ≡ false
      still h = list_any-append both pre (y ∷ []) ∙ rw (g, h) refl

      go : (p t s : Bool) → passes y ≡ p → fits y ≡ t → list_any (same y) (take n all) ≡ s
          → (both y ≡ false
          → find both ys
          ≡ find fits
          (map (λ (at : ℕ × X). at.1) (filter candidate (enumerate_from (n + 1) ys))))
          → find both (y ∷ ys)
          ≡ find fits
          (map (λ (at : ℕ × X). at.1) (filter candidate (enumerate_from n (y ∷ ys))))
      go false t s a b c more = rw a (more (rw a refl))
      go true true false a b c more = rw (a, c, b) refl
      go true false false a b c more = rw (a, c, b) (more (rw (a, b) refl))
      go true true true a b c more =
          let none : both y ≡ false =
          named_again y pre (ap (list_any (same y)) (sym before) ∙ c) g in
          let some : both y ≡ true = rw (a, b) refl in
          cc
      go true false true a b c more = rw (a, c, b) (more (rw (a, b) refl))

-- what is answered first, by the first element that passes
pub first_when : {X Y : Type 0} (f : X → Option Y) (p : X → Bool) (g : X → Y)
    → ((x : X) → f x ≡ when (p x) (g x)) → (xs : List X)
    → first_some f xs ≡ option_map g (find p xs)
first_when f p g e [] = refl
first_when {Y = Y} f p g e (x ∷ xs) = go (p x) refl (e x) (first_when f p g e xs)
  where
    go : (b : Bool) → p x ≡ b → f x ≡ when (p x) (g x) → first_some f xs ≡ option_map g (find p xs)
        → first_some f (x ∷ xs) ≡ option_map g (find p (x ∷ xs))
    go true a h more = rw (h, a) refl
    go false a h more = rw (h, a) more

grouped : (a b c : Bool) → (a && b && c) ≡ ((a && b) && c)
grouped true b c = refl
grouped false b c = refl

-- the note that is owed of the first proposal that can be certified, by those that a tally gives
pub certified_found : (r : Rules) (t : Known)
    → first_some (certified_owed r (known_state t)) (named_proposals (known_state t))
    ≡ option_map Note.Certified (find (block_fits r t.notes) (owing.uncertified t))
unfolding is_candidate
certified_found r t =
    first_when (certified_owed r (known_state t))
    (both same_proposal same_proposal-true (owing.is_uncertified t.notes) (block_fits r t.notes)
    (named_proposals (known_state t)))
    Note.Certified
    (λ p. ap (λ b. when b (Note.Certified p))
    (grouped (has_cert t.notes (Notarize p)) (not (has_certified t.notes p))
    (block_fits r t.notes p)))
    (named_proposals (known_state t))
    ∙ ap (option_map Note.Certified)
    (firsts same_proposal same_proposal-true (owing.is_uncertified t.notes)
    (block_fits r t.notes) (named_proposals (known_state t)) 0 []
    (named_proposals (known_state t)) refl refl refl)
