-- What the program is asked for, and what it writes.
use Rattle.std.specs.Prelude.{[], ℕ, ◌++◌, ◌∷◌, ◌≡◌, List, None, Option, Some, codes}
use Rattle.std.specs.Fmt.{decimal}
use Rattle.cw_base.specs.declared.hash.Digest32.{Digest32}
use Rattle.cw_types.specs.Block.{Block}
use Rattle.cw_rules.specs.Rules.{Rules}
use Rattle.cw_rules.specs.World.{signed}
use Rattle.cw_light.specs.Believing.{IsLinkAt}
use Rattle.cw_rules.specs.declared.travel.Travel.TheVariants as travel
use Rattle.hail_script.specs.Pieces.{number}
use Rattle.hail_script.specs.Scenario.{Scenario}
use Rattle.node.specs.declared.way.Chunked.{Chunked}
use Rattle.hail_world.specs.declared.report.Report.{Report}
use Rattle.hail_world.specs.Places.{script_rules}
use Rattle.hail_world.specs.Reports.{IsReport, IsRun, honest}
use Rattle.hail_report.specs.Text.{digest_text, line}
use Rattle.run_light.specs.Finding.{found_in}
use Rattle.run_light.specs.declared.search.Shown.{Shown}

-- the height that the words ask for: one word, in digits, below 2^64
abbrev pub asked_height : List (List ℕ) → Option ℕ
asked_height (word ∷ []) = number word
asked_height _ = None

-- with other words
abbrev pub usage_line : List ℕ
usage_line = line (codes "usage: hail_light")

-- `yes H DIGEST`
unfoldable pub yes_line : ℕ → Digest32 → List ℕ
yes_line height d = line (codes "yes " ++ decimal height ++ codes " " ++ digest_text d)

-- `none`
unfoldable pub none_line : List ℕ
none_line = line (codes "none")

-- The line of what was found. Yes: it has the digest of the last block of the path, which has that
-- height, and is the link of it wherever the chain goes so high.
abbrev pub Tells : Rules → List Block → ℕ → Option Shown → List ℕ → Type 0
Tells r links height None due = due ≡ none_line
Tells r links height (Some shown) due =
    (d : Digest32) × (due ≡ yes_line height d) × IsLinkAt r links shown.path height d

-- the line of the first finalization on the disks of a run's honest members, by number, that shows
-- the height, by the votes that were signed in its world
abbrev pub TellsOf : {H : Type 0} (hash : List ℕ → Digest32) (height : ℕ) (s : Scenario)
    (report : Report H Chunked)
    → IsRun hash s report → List ℕ → Type 0
TellsOf hash height s report run due =
    Tells (script_rules hash s) report.chain height
    (found_in (script_rules hash s) (signed run.world) height (honest run.world)) due

-- the text spells a script that is run, this is the report of its run, and that line is due
pub record IsToldRun {H : Type 0} (hash : List ℕ → Digest32) (height : ℕ) (text : List ℕ)
    (report : Report H Chunked) (due : List ℕ) : Type 0 where
  pub reported : IsReport travel.Chunked hash text report
  pub told : TellsOf hash height reported.script report reported.run due
