-- Lines that are played one behind the other, each under its number, and the report behind them.
use Rattle.std.specs.Prelude.{[], ℕ, ◌++◌, ◌∷◌, ◌≡◌, Bool, List, filter_map, flat_map, is_none, map}
use Rattle.std.specs.List.{enumerate_from}
use Rattle.cw_rules.specs.Chains.{Ends, outcome}
use Rattle.cw_rules.specs.Reached.{IsCluster}
use Rattle.cw_rules.specs.Report.{Entry, acked_at, entry_of, highest}
use Rattle.cw_rules.specs.Rules.{Rules}
use Rattle.cw_rules.specs.World.{Line, World, happens, opening, run}
use Rattle.hail_world.specs.declared.blocks.KnownBlocks.{KnownBlocks}
use Rattle.hail_world.specs.declared.place.Place.{Place}
use Rattle.hail_world.specs.declared.report.Report.{Report}
use Rattle.hail_world.specs.Known.{Knows}
use Rattle.hail_world.specs.Places.{SitAs}
use Rattle.hail_report.specs.Pool.{sent_in}
use Rattle.hail_world.specs.Reports.{AreNodesOf, HoldNotes, honest, honest_at}
use Rattle.hail_world.specs.Runs.{chain_from}
use Rattle.hail_world.specs.MemoryNodes.{MemoryNode}

-- the lines without their numbers
abbrev pub lines_of : List (ℕ × Line) → List Line
lines_of rows = map (λ row. row.1) rows

-- the entries of lines, one after another
abbrev pub entries_of : Rules → World → List (ℕ × Line) → List Entry
entries_of r w [] = []
entries_of r w (row ∷ rows) = entry_of r w row.0 row.1 ∷ entries_of r (happens r w row.1) rows

-- The lines were played without a clash: these are their entries, and the places and the known
-- blocks are those of the world that they end in.
pub record HavePlayed (r : Rules) (w : World) (rows : List (ℕ × Line)) (steps : List Entry)
    (places : List (Place MemoryNode)) (known : KnownBlocks) (faulty : List Bool) : Type 0 where
  pub ends : outcome r w (lines_of rows) ≡ Ends (run r w (lines_of rows))
  pub entries : steps ≡ entries_of r w rows
  pub members : SitAs places (run r w (lines_of rows)).members
  pub sent : sent_in steps ≡ (run r w (lines_of rows)).pool
  pub knows : Knows r known (run r w (lines_of rows))
  pub flags : faulty ≡ map is_none (run r w (lines_of rows)).members

-- the lines begin a script of a cluster that opens in this world
pub record Begin (r : Rules) (w : World) (lines : List Line) : Type 0 where
  pub rest : List Line
  pub cluster : IsCluster r (lines ++ rest)
  pub opens : w ≡ opening r (lines ++ rest)

-- the parts of a report, as a world leaves them
pub record IsReportOf {H W : Type 0} (r : Rules) (w : World) (opening steps : List Entry)
    (report : Report H W) : Type 0 where
  pub opening_is : report.opening ≡ opening
  pub steps_are : report.steps ≡ steps
  pub stands : report.acked ≡ filter_map acked_at (enumerate_from 0 w.members)
  pub chain : report.chain ≡ chain_from r w (highest (flat_map (λ e. e.handed) (opening ++ steps)))
  pub disks : HoldNotes (honest w) report.disks
  pub nodes : AreNodesOf r (honest_at w) report.disks report.nodes
