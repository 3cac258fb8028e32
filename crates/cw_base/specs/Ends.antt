-- Where a reader stands: behind the bytes that were taken.
use Rattle.std.specs.Prelude.{◌≡◌, ℕ, List, ◌++◌}

-- the bytes left are the end of those that were there
pub record IsEnd (bytes left : List ℕ) : Type 0 where
  pub taken : List ℕ
  pub parts : bytes ≡ taken ++ left
