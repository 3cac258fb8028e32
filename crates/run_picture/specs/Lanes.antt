-- A lane for each member, broken where the member is stopped.
use Rattle.std.specs.Prelude.{ℕ, ◌+◌, ◌==◌, ◌&&◌, ◌++◌, List, [], ◌∷◌, codes, Bool, true, false, if◌then◌else◌, is_some}
use Rattle.std.specs.Fmt.{decimal}
use Rattle.cw_rules.specs.World.{line_member}
use Rattle.run_picture.specs.Elements.{down, line_along, text_at}
use Rattle.run_picture.specs.Frame.{row_top, x_of, y_of}
use Rattle.run_picture.specs.Steps.{Step, live_after, stops}
use Rattle.run_picture.specs.declared.flights.Flight.{Flight}

-- the class of a lane
abbrev pub lane_class : Bool → List ℕ
lane_class false = codes "lane"
lane_class true = codes "lane bad"

-- a strip down to y, and above it the member's number
abbrev pub lane_text : ℕ → ℕ → ℕ → Bool → List ℕ
lane_text x y member is_faulty =
    line_along (down x 132 y) (lane_class is_faulty)
    ++ text_at x 122 (codes "head mid") (decimal member)

-- the lanes of members, from one on
abbrev pub lanes_from : ℕ → ℕ → ℕ → List Bool → List ℕ
lanes_from total y member [] = []
lanes_from total y member (is_faulty ∷ more) =
    lane_text (x_of total member) y member is_faulty ++ lanes_from total y (member + 1) more

-- a member is stopped between two places of its lane
abbrev pub gap_text : ℕ → ℕ → ℕ → List ℕ
gap_text x from y =
    line_along (down x from y) (codes "gap") ++ line_along (down x from y) (codes "stopped")

-- the member is started again at the line
abbrev pub is_back : ℕ → Step → Bool
is_back member s = (line_member s.line == member) && is_some s.found

-- where that is, of lines in rows from one on; else the rows' end
abbrev pub back_at : ℕ → ℕ → List Step → ℕ
back_at member row [] = row_top row
back_at member row (s ∷ more) = if is_back member s then y_of row else back_at member (row + 1) more

-- behind a line at which its member stops
abbrev pub gap_at : ℕ → ℕ → Step → List Step → Bool → List ℕ
gap_at total row s more false = []
gap_at total row s more true =
    gap_text (x_of total (line_member s.line)) (y_of row)
    (back_at (line_member s.line) (row + 1) more)

-- all gaps, of lines in rows from one on with these live members
abbrev pub gaps_from : ℕ → List Flight → ℕ → List Bool → List Step → List ℕ
gaps_from total flights row live [] = []
gaps_from total flights row live (s ∷ more) =
    gap_at total row s more (stops flights row live s.line)
    ++ gaps_from total flights (row + 1) (live_after flights row live s) more
