-- What the lanes program tells of a text.
use Rattle.std.specs.Prelude.{ℕ, ◌++◌, ◌≡◌, Err, List, codes, flat_map}
use Rattle.std.specs.Fmt.{decimal}
use Rattle.cw_base.specs.declared.hash.Digest32.{Digest32}
use Rattle.hail_script.specs.declared.error.RunError.TheVariants as error
use Rattle.hail_script.specs.Lanes.{laned_of}
use Rattle.hail_report.specs.declared.exit.Exit.{Exit}
use Rattle.hail_report.specs.declared.exit.Exit.TheVariants.{Clash, Done, Refused}
use Rattle.hail_report.specs.Text.{error_line, line, report_text}
use Rattle.hailstorm.specs.Reports.{Report, shown_report}
use Rattle.hailstorm.specs.Lanes.{IsLanesClash, IsLanesReport}

-- the answer where there are words
abbrev pub lanes_usage_line : List ℕ
lanes_usage_line = line (codes "usage: hail_lanes")

-- a lane, behind one space
unfoldable pub lane_word : ℕ → List ℕ
lane_word lane = codes " " ++ decimal lane

-- `order`, and each lane behind one space
abbrev pub order_line : List ℕ → List ℕ
order_line order = line (codes "order" ++ flat_map lane_word order)

-- the order, and the text of a report
abbrev pub lanes_text : {H : Type 0} → (List ℕ → Digest32) → List ℕ → Report H → List ℕ
lanes_text hash order r = order_line order ++ report_text hash (shown_report r)

-- the order, and the line of a clash
abbrev pub clash_lines : List ℕ → List ℕ → List ℕ → List ℕ
clash_lines order earlier later = order_line order ++ error_line (error.HashClash earlier later)

-- What is told of a text. Done: this is the report of the text's script with the lanes merged in
-- this order, and the order and the report's text are written. Refused: the text isn't run, for
-- this first cause. Clash: a run of the script, with the lanes merged in an order that is written,
-- ends in these two encodings of one digest.
abbrev pub TellsLanes : {H : Type 0} → (List ℕ → Digest32) → List ℕ → Exit (List ℕ × Report H)
    → List ℕ → Type 0
TellsLanes hash text (Done (order, r)) due =
    IsLanesReport hash text order r × (due ≡ lanes_text hash order r)
TellsLanes hash text (Refused e) due = (laned_of text ≡ Err e) × (due ≡ error_line e)
TellsLanes hash text (Clash earlier later) due =
    (order : List ℕ) × IsLanesClash hash text order earlier later
    × (due ≡ clash_lines order earlier later)
TellsLanes hash text _ due = ⊥
