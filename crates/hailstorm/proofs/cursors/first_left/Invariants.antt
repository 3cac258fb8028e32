use Rattle.std.proofs.Common.{◌≡◌, ℕ, List, [], length, map, take}
use Rattle.std.specs.Prelude.{flat_map}
use Rattle.cw_rules.specs.World.{Line}
use Rattle.hailstorm.specs.Turns.{between}
use Rattle.hailstorm.proofs.cursors.first_left.Given as goal

-- the lanes up to here have nothing left
abbrev pub invariant-loop-lane : goal.invariant-loop-lane
invariant-loop-lane l =
    (rows : List (ℕ × Line)) → length rows ≡ l.count
    → flat_map (λ lane. lane) (map (between rows) (take l.lane l.cursors)) ≡ []
