-- An arrow for each message that a line brings, from the row that sent it; a stub for each that no
-- line names.
use Rattle.std.specs.Prelude.{ℕ, ◌+◌, ◌-◌, ◌==◌, ◌++◌, List, [], ◌∷◌, codes, Bool, false, if◌then◌else◌, option_and_then, length}
use Rattle.std.specs.Fmt.{decimal}
use Rattle.std.specs.List.{list_any}
use Rattle.std.specs.Option.{option_map_or}
use Rattle.cw_rules.specs.World.{line_member}
use Rattle.run_picture.specs.Elements.{arrow_of, bow, straight}
use Rattle.run_picture.specs.Frame.{x_of, y_of}
use Rattle.run_picture.specs.Lines.{ask_of_line, number_in}
use Rattle.hail_script.specs.Admission.{is_marked}
use Rattle.run_picture.specs.Steps.{Step, brought, live_after}
use Rattle.run_picture.specs.Told.{class_of, letters}
use Rattle.run_picture.specs.declared.flights.Flight.{Flight}

-- where an arrow runs: straight, and in a bow beside the lane where it comes from there
abbrev pub way_text : ℕ → ℕ → ℕ → ℕ → List ℕ
way_text from top x y = if from == x then bow x top (x - 20) y else straight from top x y

-- the class of an arrow: grey to a member that isn't live, dashed from a faulty one
abbrev pub tone : Bool → Flight → List ℕ
tone is_live f = if is_live then class_of f.said.says else codes "g"

abbrev pub dashes : List Bool → Flight → List ℕ
dashes faulty f = if is_marked faulty f.from then codes " z" else []

-- who sent what, and who gets it
unfoldable pub arrow_title : ℕ → ℕ → Flight → List ℕ
arrow_title number member f =
    letters f.said.says ++ codes " from " ++ decimal f.from ++ codes " to " ++ decimal member
    ++ codes ", lines " ++ decimal f.line ++ codes " to " ++ decimal number

-- the arrow of a message to a line in a row, whose member is live or not
abbrev pub arrow_text : List Bool → Bool → ℕ → Step → Flight → List ℕ
arrow_text faulty is_live row s f =
    arrow_of
    (way_text (x_of (length faulty) f.from) (y_of f.row)
    (x_of (length faulty) (line_member s.line)) (y_of row))
    (tone is_live f) (dashes faulty f) (arrow_title s.number (line_member s.line) f)

-- of the message that a line brings
abbrev pub arrow_at : List Bool → List Flight → ℕ → List Bool → Step → List ℕ
arrow_at faulty flights row live s =
    option_map_or (arrow_text faulty (is_marked live (line_member s.line)) row s)
    (brought flights row s.line) []

-- all arrows, of lines in rows from one on with these live members
abbrev pub arrows_from : List Bool → List Flight → ℕ → List Bool → List Step → List ℕ
arrows_from faulty flights row live [] = []
arrows_from faulty flights row live (s ∷ more) =
    arrow_at faulty flights row live s
    ++ arrows_from faulty flights (row + 1) (live_after flights row live s) more

-- ---- messages that no line names

-- the line names the message
abbrev pub names : ℕ → Step → Bool
names number s =
    option_map_or (λ n. n == number) (option_and_then number_in (ask_of_line s.line)) false

-- who sent it
unfoldable pub lost_text : Flight → List ℕ
lost_text f =
    letters f.said.says ++ codes " from " ++ decimal f.from ++ codes ", line " ++ decimal f.line
    ++ codes ", never delivered"

-- a stub from x and y
abbrev pub stub_text : ℕ → ℕ → Flight → List ℕ
stub_text x y f =
    arrow_of (straight x y (x - 10) (y + 12)) (class_of f.said.says) (codes " stub") (lost_text f)

abbrev pub stub_at : ℕ → Flight → Bool → List ℕ
stub_at total f is_named =
    if is_named then [] else stub_text (x_of total f.from) (y_of f.row) f

-- the stubs of messages, from a number on
abbrev pub stubs_from : ℕ → List Step → ℕ → List Flight → List ℕ
stubs_from total steps number [] = []
stubs_from total steps number (f ∷ more) =
    stub_at total f (list_any (names number) steps) ++ stubs_from total steps (number + 1) more
