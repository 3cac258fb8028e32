-- How many shards a config has, and how wide they may be.
use Rattle.std.specs.Prelude.{ℕ, ◌+◌, ◌-◌, ◌*◌, ◌^◌, ◌≤◌}
use Rattle.cw_base.specs.Counts.{Counts}

-- how many shards an encoding has
abbrev pub total_of : Counts → ℕ
total_of c = c.minimum + c.extra

-- a width for which so many shards have room
pub record IsWidth (total width : ℕ) : Type 0 where
  pub narrow : width ≤ 2 ^ 32 - 1
  pub room : total * width ≤ 2 ^ 63 - 1
