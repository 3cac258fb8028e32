use Rattle.std.proofs.Common.{◌≡◌, ◌≤◌, ◌++◌, ℕ, List, drop, length, map}
use Rattle.cw_rules.specs.World.{Line}
use Rattle.hail_script.specs.Lanes.{cut}
use Rattle.hailstorm.specs.Turns.{between}
use Rattle.hailstorm.proofs.cursors.runs_from.Given as goal

-- the runs so far stand before those of the sizes from here on
abbrev pub invariant-loop-size : goal.invariant-loop-size
invariant-loop-size l = record {
  within : l.from ≤ l.count;
  runs : (rows : List (ℕ × Line)) → length rows ≡ l.count
      → map (between rows) l.runs.items ++ cut (drop l.size-index l.sizes) (drop l.from rows)
      ≡ cut l.sizes (drop l.fn.from rows);
}
