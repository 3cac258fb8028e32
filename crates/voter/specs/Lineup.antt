-- What is named, in order, each once, and which of it waits.
use Rattle.std.specs.Prelude.{[], ℕ, ◌==◌, ◌≡◌, ◌∷◌, Bool, List, None, Option, Some, filter, if◌then◌else◌, length, nat_lt, not, suc, true, zero}
use Rattle.std.specs.List.{enumerate_from, insert, position_from}
use Rattle.std.specs.Map.{lookup}

-- each element once, where it first stands
abbrev pub without_repeats : {X : Type 0} → (X → X → Bool) → List X → List X
without_repeats same [] = []
without_repeats same (x ∷ xs) = x ∷ filter (λ y. not (same y x)) (without_repeats same xs)

-- those that pass, each with its place among all
abbrev pub passing : {X : Type 0} → (X → Bool) → List X → List (ℕ × X)
passing passes all = filter (λ at. passes at.1) (enumerate_from 0 all)

-- those at other places
abbrev pub others : {X : Type 0} → ℕ → List (ℕ × X) → List (ℕ × X)
others place waiting = filter (λ at. not (at.0 == place)) waiting

-- one at its place, among those at others
abbrev pub put_in : {X : Type 0} → ℕ → X → List (ℕ × X) → List (ℕ × X)
put_in place x waiting =
    insert waiting (length (filter (λ at. nat_lt at.0 place) waiting)) (place, x)

-- the same, where it waits; else only the others
abbrev pub set_in : {X : Type 0} → ℕ → X → Bool → List (ℕ × X) → List (ℕ × X)
set_in place x waits waiting =
    if waits then put_in place x (others place waiting) else others place waiting

-- a number stands for the place below it, and 0 for none
abbrev pub place_below : ℕ → Option ℕ
place_below zero = None
place_below (suc n) = Some n

-- the same, if there is a number
abbrev pub place_of : Option ℕ → Option ℕ
place_of None = None
place_of (Some n) = place_below n

module _ {K X : Type 0} (eq : K → K → Bool) (key : X → K) (same : X → X → Bool) where
  -- what is the same has one key
  pub record IsKeyed : Type 0 where
    pub tie : (a b : X) → same a b ≡ eq (key a) (key b)
    pub is : (a b : X) → same a b ≡ true → a ≡ b
    pub one : (a b : K) → eq a b ≡ true → a ≡ b
    pub self : (a : K) → eq a a ≡ true

  -- the map has the place of each that is named, and those wait that pass
  pub record IsLineup (passes : X → Bool) (named : List X) (places : List (K × ℕ)) (count : ℕ)
      (waiting : List (ℕ × X)) : Type 0 where
    pub counted : count ≡ length (without_repeats same named)
    pub placed : (q : K) → place_of (lookup (eq q) places)
        ≡ position_from (λ x. eq q (key x)) 0 (without_repeats same named)
    pub waits : waiting ≡ passing passes (without_repeats same named)
