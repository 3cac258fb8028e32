-- The greatest of some heights.
use Rattle.std.specs.Prelude.{[], ℕ, ◌∷◌, List, None, Option, Some}
use Rattle.cw_rules.specs.Notes.{greatest}

-- the greatest of some numbers, if there is one
abbrev pub greatest_of : List ℕ → Option ℕ
greatest_of [] = None
greatest_of (x ∷ xs) = Some (greatest (x ∷ xs))
