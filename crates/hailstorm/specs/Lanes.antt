-- When a report is that of a script with lanes, and why there is none.
use Rattle.std.specs.Prelude.{[], ℕ, ◌++◌, ◌+◌, ◌-◌, ◌==◌, ◌∷◌, ◌≡◌, ◌≢◌, ◌≤◌, Err, List, None, Ok, Option, Some, count_by, drop, flat_map, length, map, slice_get, slice_set, take}
use Rattle.std.specs.Option.{option_map_or}
use Rattle.cw_base.specs.declared.hash.Digest32.{Digest32}
use Rattle.cw_rules.specs.Chains.{Clashes, Ends, outcome}
use Rattle.cw_rules.specs.Reached.{IsReported}
use Rattle.cw_rules.specs.Report.{Entry, handed_in}
use Rattle.cw_rules.specs.World.{Line, World, opening}
use Rattle.hail_script.specs.declared.error.RunError.{RunError}
use Rattle.hail_script.specs.declared.error.RunError.TheVariants as error
use Rattle.hail_script.specs.Grammar.{first_event}
use Rattle.hail_script.specs.Lanes.{Laned, laned_of, lanes, prefix}
use Rattle.hail_script.specs.Scenario.{Scenario}
use Rattle.hail_world.specs.Places.{script_rules}
use Rattle.hail_world.specs.Played.{lines_of}
use Rattle.hailstorm.specs.Reports.{Report, IsClashOf, IsRun, honest_numbers}

-- ---- lanes merged in an order

-- the lane of that number
abbrev pub lane_at : {X : Type 0} → List (List X) → ℕ → List X
lane_at lanes k = option_map_or (λ lane. lane) (slice_get lanes k) []

-- the lanes without the next line of one of them
abbrev pub without_next : {X : Type 0} → List (List X) → ℕ → List (List X)
without_next lanes k = slice_set lanes k (drop 1 (lane_at lanes k))

-- the lanes merged in an order of their numbers: each time one is named, its next line comes
abbrev pub merged : {X : Type 0} → List (List X) → List ℕ → List X
merged lanes [] = []
merged lanes (k ∷ order) = take 1 (lane_at lanes k) ++ merged (without_next lanes k) order

-- what is left of them then
abbrev pub left : {X : Type 0} → List (List X) → List ℕ → List (List X)
left lanes [] = lanes
left lanes (k ∷ order) = left (without_next lanes k) order

-- how often the order names the lane
abbrev pub turns_of : ℕ → List ℕ → ℕ
turns_of k order = count_by (λ j. j == k) order

-- ---- the lines in their order

-- the lines before the first lane, followed by the lanes merged in an order; each under its number
-- in the text
abbrev pub played : Laned → List ℕ → List (ℕ × Line)
played x order = prefix x ++ merged (lanes x) order

-- these lines, and behind them what is left of the lanes
abbrev pub whole : Laned → List ℕ → List (ℕ × Line)
whole x order = played x order ++ flat_map (λ lane. lane) (left (lanes x) order)

-- the plain script of these lines
abbrev pub script_with : Laned → List (ℕ × Line) → Scenario
script_with x rows = record x.script { lines = lines_of rows }

-- entries, as of lines numbered from a number on
abbrev pub renumbered : ℕ → List Entry → List Entry
renumbered at [] = []
renumbered at (e ∷ es) = record e { line = at } ∷ renumbered (at + 1) es

-- the report, with its steps as of the lines of a plain script
abbrev pub as_plain : {H : Type 0} → Laned → Report H → Report H
as_plain x report =
    record report { steps = renumbered (first_event x.script.committees) report.steps }

-- ---- the answers

-- The text spells a script with lanes, each lane has a turn for each of its lines, and the report
-- is that of the plain script of the lines in that order; but each step is told under the number of
-- its line in the text. The last three fields follow from the others, by the laws of runs.
pub record IsLanesReport {H : Type 0} (hash : List ℕ → Digest32) (text : List ℕ) (order : List ℕ)
    (report : Report H) : Type 0 where
  pub laned : Laned
  pub in_grammar : laned_of text ≡ Ok laned
  pub once : (k : ℕ) → turns_of k order ≡ length (lane_at (lanes laned) k)
  pub numbers : map (λ e. e.line) report.steps ≡ map (λ row. row.0) (played laned order)
  pub run : IsRun hash (script_with laned (played laned order)) (as_plain laned report)
  pub opened : map (λ e. e.member) report.opening ≡ map Some (honest_numbers laned.script)
  pub stepped : length report.steps ≡ length laned.script.lines
  pub chain : IsReported (script_rules hash laned.script) run.world
      (handed_in (script_rules hash laned.script) (lines_of (played laned order))) report.chain

-- all but the last
abbrev pub but_last : List ℕ → List ℕ
but_last order = take (length order - 1) order

-- The text spells a script with lanes whose run, with the lanes merged in that order, ends in this
-- clash: at the order's last turn, or within the lines before all lanes where there was no turn. No
-- lane has more turns than lines.
pub record IsLanesClash (hash : List ℕ → Digest32) (text : List ℕ) (order : List ℕ)
    (earlier later : List ℕ) : Type 0 where
  pub laned : Laned
  pub in_grammar : laned_of text ≡ Ok laned
  pub at_most : (k : ℕ) → turns_of k order ≤ length (lane_at (lanes laned) k)
  pub clash : IsClashOf hash (script_with laned (whole laned order)) earlier later
  pub met : outcome (script_rules hash laned.script)
      (opening (script_rules hash laned.script) laned.script.lines) (lines_of (played laned order))
      ≡ Clashes earlier later
  pub at_last : order ≢ []
      → (w : World)
      × (outcome (script_rules hash laned.script)
      (opening (script_rules hash laned.script) laned.script.lines)
      (lines_of (played laned (but_last order)))
      ≡ Ends w)

-- a cause that is tested before the run
abbrev pub IsLanesRefusal : List ℕ → List ℕ → RunError → Type 0
IsLanesRefusal text order e = (order ≡ []) × (laned_of text ≡ Err e)

-- why there is no report, with the lanes that had a turn
abbrev pub IsLanesCause : (List ℕ → Digest32) → List ℕ → List ℕ → RunError → Type 0
IsLanesCause hash text order error.NoMemory = order ≡ []
IsLanesCause hash text order (error.HashClash earlier later) =
    IsLanesClash hash text order earlier later
IsLanesCause hash text order error.BadCommittee = IsLanesRefusal text order error.BadCommittee
IsLanesCause hash text order error.TooManyFaulty = IsLanesRefusal text order error.TooManyFaulty
IsLanesCause hash text order (error.Syntax line) = IsLanesRefusal text order (error.Syntax line)
IsLanesCause hash text order (error.UnknownMember line) =
    IsLanesRefusal text order (error.UnknownMember line)
IsLanesCause hash text order (error.OversizeBlock line) =
    IsLanesRefusal text order (error.OversizeBlock line)
