-- The results of calls at the items of a list, piece by piece.
use Rattle.std.proofs.Common.{◌≡◌, true, false, ℕ, ◌+◌, ◌<◌, List, [], ◌∷◌, ◌++◌, length, take, drop, sym, ap, ◌∙◌}
use Rattle.std.specs.Prelude.{slice_index_or, Result, Ok, Err, IfOk, IsErr, MatchResult}
use Rattle.std.proofs.lemmas.List.{take_more, take-append-drop}
use denote.Ref.{Bor}
use denote.Param.Members.{Shared}
use Rattle.std.specs.Fn.{FnReturnsAt}
use Rattle.cw_base.specs.Mapping.{GivesItems}

module _ {F T R : Type 0} (g : Shared F (Bor T × Unit {0}) R) (f : F) where
  pub GivesItems-append : (xs ys : List T) (rs ss : List R) → GivesItems g f xs rs
      → GivesItems g f ys ss → GivesItems g f (xs ++ ys) (rs ++ ss)
  GivesItems-append [] ys [] ss first second = second
  GivesItems-append [] ys (r ∷ rs) ss first second = absurd first
  GivesItems-append (x ∷ xs) ys [] ss first second = absurd first
  GivesItems-append (x ∷ xs) ys (r ∷ rs) ss first second =
      (first.0, GivesItems-append xs ys rs ss first.1 second)

  pub GivesItems_more : (xs : List T) (i : ℕ) (x : T) (rs ss : List R) (r : R)
      → i < length xs → x ≡ slice_index_or xs i x → ss ≡ rs ++ r ∷ []
      → GivesItems g f (take i xs) rs → FnReturnsAt g f x r
      → GivesItems g f (take (i + 1) xs) ss
  GivesItems_more xs i x rs ss r lt is added given returned =
      rw (added, take_more xs i x lt, ← is)
      (GivesItems-append (take i xs) (x ∷ []) rs (r ∷ []) given (returned, tt))

  pub GivesItems_halves : (n : ℕ) (xs hs ts : List T) (rs first rest : List R)
      → hs ≡ take n xs → ts ≡ drop n xs → rs ≡ first ++ rest → GivesItems g f hs first
      → GivesItems g f ts rest → GivesItems g f xs rs
  GivesItems_halves n xs hs ts rs first rest front back both gives also =
      let whole : hs ++ ts ≡ xs =
      ap (λ h. h ++ ts) front ∙ (ap (λ t. take n xs ++ t) back ∙ take-append-drop n xs) in
      rw (both, sym whole) (GivesItems-append hs ts first rest gives also)

  -- two such lists, or want of memory in one of them or for both
  pub GivesItems_behind : {V E : Type 0} (items : V → List R) (n : ℕ) (xs hs ts : List T)
      (own others all : Result V E) → hs ≡ take n xs → ts ≡ drop n xs
      → MatchResult own
      (λ first. MatchResult others (λ rest. IfOk all (λ v. items v ≡ items first ++ items rest))
      (λ _. IsErr all)) (λ _. IsErr all)
      → IfOk own (λ v. GivesItems g f hs (items v)) → IfOk others (λ v. GivesItems g f ts (items v))
      → IfOk all (λ v. GivesItems g f xs (items v))
  GivesItems_behind items n xs hs ts own others (Err e) front back joined gives also = tt
  GivesItems_behind items n xs hs ts (Err o) others (Ok all) front back joined gives also =
      let no : false ≡ true = joined in absurd (cc)
  GivesItems_behind items n xs hs ts (Ok o) (Err p) (Ok all) front back joined gives also =
      let no : false ≡ true = joined in absurd (cc)
  GivesItems_behind items n xs hs ts (Ok o) (Ok p) (Ok all) front back joined gives also =
      GivesItems_halves n xs hs ts (items all) (items o) (items p) front back joined gives also
