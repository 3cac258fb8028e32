-- Lines of honest members, and what they make of a place.
use Rattle.std.specs.Prelude.{ℕ, ◌≡◌, Bool, List, Option, Some, option_and_then, slice_get, slice_set}
use Rattle.cw_types.specs.declared.event.StepOut.{StepOut}
use Rattle.cw_rules.specs.Rules.{Rules}
use Rattle.cw_rules.specs.Step.{Member}
use Rattle.cw_rules.specs.World.{Faulty, Line, Sent, line_member}
use Rattle.hail_world.specs.declared.place.Place.{Place}
use Rattle.hail_world.specs.Places.{Makes, SitsAs, found_at, table, turned_by, world_of_pool}
use Rattle.hail_world.specs.MemoryNodes.{MemoryNode}

-- a line that isn't of a faulty member
abbrev pub IsHonest : Line → Type 0
IsHonest (Faulty m fault) = ⊥
IsHonest _ = Unit {0}

-- one place is another, and what it gave is what the rules make of the member who sat there
pub record IsPlaced (r : Rules) (faulty : List Bool) (pool : List Sent) (line : Line)
    (old new : List (Place MemoryNode)) (found : Option ℕ) (out : Option StepOut) : Type 0 where
  pub before : Place MemoryNode
  pub after : Place MemoryNode
  pub was : slice_get old (line_member line) ≡ Some before
  pub becomes : new ≡ slice_set old (line_member line) after
  pub finds : found ≡ found_at line after out
  pub makes : (o : Option Member) → SitsAs before o
      → Makes o
      (option_and_then
      (turned_by r (table faulty pool) (world_of_pool pool) (line_member line) line)
      o)
      after out
