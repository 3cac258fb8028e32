-- A cluster in a run: the lines that had their turns, and what the rules make of them.
use Rattle.std.specs.Prelude.{ℕ, ◌≡◌, Bool, List, Option, false, filter_map, length, option_map, slice_get}
use Rattle.cw_base.specs.declared.hash.Digest32.{Digest32}
use Rattle.cw_rules.specs.Report.{Entry, opening_entries}
use Rattle.cw_rules.specs.World.{Line, World, run}
use Rattle.cw_rules.specs.declared.travel.Travel.{Travel}
use Rattle.hail_script.specs.Scenario.{Scenario}
use Rattle.hail_world.specs.declared.blocks.KnownBlocks.{KnownBlocks}
use Rattle.hail_world.specs.declared.place.Place.{Place}
use Rattle.hail_world.specs.Places.{WorkBy, script_rules}
use Rattle.hail_world.specs.Played.{HavePlayed, entries_of, lines_of}
use Rattle.hail_world.specs.Runs.{opened}
use Rattle.hail_world.specs.MemoryNodes.{MemoryNode}

-- a cluster in a run: its script, the lines that had their turns, each under its number, and
-- whether one of them was left in the midst
pub record Cluster : Type 0 where
  pub script : Scenario
  pub rows : List (ℕ × Line)
  pub over : Bool

-- the world that these lines end in
abbrev pub world_in : (List ℕ → Digest32) → Cluster → World
world_in hash c = run (script_rules hash c.script) (opened hash c.script) (lines_of c.rows)

-- what they gave
abbrev pub steps_in : (List ℕ → Digest32) → Cluster → List Entry
steps_in hash c = entries_of (script_rules hash c.script) (opened hash c.script) c.rows

-- the line at a place of a script, under a number
abbrev pub line_of_turn : List Line → ℕ × ℕ → Option (ℕ × Line)
line_of_turn lines turn = option_map (λ line. (turn.0, line)) (slice_get lines turn.1)

abbrev pub lines_of_turns : List Line → List (ℕ × ℕ) → List (ℕ × Line)
lines_of_turns lines turns = filter_map (line_of_turn lines) turns

-- the lines were played without a clash, and each member of the world that they end in sits in its
-- place, by the rules
pub record IsUnderWay (hash : List ℕ → Digest32) (s : Scenario) (rows : List (ℕ × Line))
    (steps : List Entry) (places : List (Place MemoryNode)) (known : KnownBlocks)
    (faulty : List Bool) : Type 0 where
  pub played : HavePlayed (script_rules hash s) (opened hash s) rows steps places known faulty
  pub sound : WorkBy (script_rules hash s) 0 places
  pub count : length places ≡ s.committees.total

-- what is known of a cluster: how it opened, and where it stands while no turn was left in the
-- midst
abbrev pub ClusterStands : (List ℕ → Digest32) → Travel → Scenario → List Entry → List (ℕ × Line)
    → Bool
    → List Entry → List (Place MemoryNode) → KnownBlocks → List Bool → Type 0
ClusterStands hash travel s opening rows over steps places known faulty =
    (s.travel ≡ travel) × (opening ≡ opening_entries (script_rules hash s) s.lines)
    × (over ≡ false → IsUnderWay hash s rows steps places known faulty)
