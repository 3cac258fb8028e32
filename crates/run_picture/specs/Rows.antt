-- The lines of the script, one below the other, with a guide to the member that each names.
use Rattle.std.specs.Prelude.{ℕ, ◌+◌, ◌++◌, List, [], ◌∷◌, codes}
use Rattle.std.specs.Fmt.{decimal}
use Rattle.cw_rules.specs.World.{line_member}
use Rattle.run_picture.specs.Elements.{across, line_along, text_at}
use Rattle.run_picture.specs.Frame.{x_of, y_of}
use Rattle.run_picture.specs.Lines.{line_class, line_text}
use Rattle.run_picture.specs.Steps.{Step}

-- the number of a line, its text, and dots to the lane of its member
abbrev pub row_text : ℕ → ℕ → Step → List ℕ
row_text total row s =
    text_at 38 (y_of row + 4) (codes "dim end") (decimal s.number)
    ++ text_at 46 (y_of row + 4) (line_class s.line) (line_text s.line)
    ++ line_along (across 240 (y_of row) (x_of total (line_member s.line))) (codes "guide")

-- the rows of lines, from one on
abbrev pub rows_from : ℕ → ℕ → List Step → List ℕ
rows_from total row [] = []
rows_from total row (s ∷ more) = row_text total row s ++ rows_from total (row + 1) more
