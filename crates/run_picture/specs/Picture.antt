-- The picture of a run: lines from above, a lane for each member, and an arrow for each message.
use Rattle.std.specs.Prelude.{ℕ, ◌+◌, ◌++◌, List, [], ◌∷◌, codes, Bool, length, map, not, nat_lt, if◌then◌else◌, take}
use Rattle.std.specs.Fmt.{decimal}
use Rattle.cw_base.specs.declared.hash.Digest32.{Digest32}
use Rattle.run_picture.specs.Arrows.{arrows_from, stubs_from}
use Rattle.run_picture.specs.Elements.{in_one_text, lined, text_at}
use Rattle.run_picture.specs.Frame.{height, most_rows, width, y_of}
use Rattle.run_picture.specs.Lanes.{gaps_from, lanes_from}
use Rattle.run_picture.specs.Links.{links_text}
use Rattle.run_picture.specs.Marks.{marks_from}
use Rattle.run_picture.specs.Rows.{rows_from}
use Rattle.run_picture.specs.Steps.{Step, flights_from}
use Rattle.run_picture.specs.Style.{keys, style}
use Rattle.run_picture.specs.declared.flights.Flight.{Flight}

-- a page of that size
unfoldable pub svg_text : ℕ → ℕ → List ℕ
svg_text width height =
    lined
    (codes "<svg xmlns='http://www.w3.org/2000/svg' width='" ∷ decimal width ∷ codes "' height='"
    ∷ decimal height ∷ codes "' viewBox='0 0 " ∷ decimal width ∷ codes " " ∷ decimal height
    ∷ codes "'>" ∷ [])

unfoldable pub page_text : ℕ → ℕ → List ℕ
page_text width height =
    lined
    (codes "<rect width='" ∷ decimal width ∷ codes "' height='" ∷ decimal height
    ∷ codes "' class='page'/>" ∷ [])

-- how many lines there are, and of those that are drawn
unfoldable pub lines_words : ℕ → ℕ → List ℕ
lines_words lines drawn =
    if nat_lt drawn lines
    then in_one_text (decimal drawn ∷ codes " of " ∷ decimal lines ∷ codes " lines" ∷ [])
    else in_one_text (decimal lines ∷ codes " lines" ∷ [])

-- how many members, lines, messages and blocks there are
unfoldable pub title_words : ℕ → ℕ → ℕ → ℕ → ℕ → List ℕ
title_words total lines drawn messages blocks =
    in_one_text
    (codes "cluster of " ∷ decimal total ∷ codes ", " ∷ lines_words lines drawn ∷ codes ", "
    ∷ decimal messages ∷ codes " messages, a chain of " ∷ decimal blocks
    ∷ codes " with genesis" ∷ [])

unfoldable pub svg_end : List ℕ
svg_end = lined (codes "</svg>" ∷ [])

-- all that is drawn of steps and their messages
abbrev pub drawing : List Bool → List Flight → List Step → List ℕ
drawing faulty flights steps =
    rows_from (length faulty) 1 steps
    ++ lanes_from (length faulty) (y_of (length steps) + 10) 0 faulty
    ++ gaps_from (length faulty) flights 1 (map not faulty) steps
    ++ stubs_from (length faulty) steps 0 flights
    ++ arrows_from faulty flights 1 (map not faulty) steps
    ++ marks_from (length faulty) flights 1 (map not faulty) steps

-- an empty page, with what is the same in all
abbrev pub sheet : ℕ → ℕ → List ℕ
sheet width height = svg_text width height ++ page_text width height ++ style

-- its title, and the meaning of its marks
abbrev pub titles : ℕ → ℕ → ℕ → ℕ → ℕ → List ℕ
titles total lines drawn messages blocks =
    text_at 14 26 (codes "big") (title_words total lines drawn messages blocks)
    ++ text_at 240 122 (codes "dim end") (codes "member") ++ keys

abbrev pub heading : ℕ → ℕ → ℕ → ℕ → ℕ → List ℕ
heading total lines drawn messages blocks =
    sheet (width total) (height drawn) ++ titles total lines drawn messages blocks

-- the chain below so many rows, and the end
abbrev pub foot : ℕ → List Digest32 → List ℕ
foot rows chain =
    text_at 14 (y_of rows + 50) (codes "big") (codes "chain") ++ links_text (y_of rows + 62) chain
    ++ svg_end

-- of a script with so many lines those that are drawn
abbrev pub picture_of : List Bool → ℕ → List Step → List Digest32 → List ℕ
picture_of faulty lines steps chain =
    heading (length faulty) lines (length steps) (length (flights_from 1 steps)) (length chain)
    ++ drawing faulty (flights_from 1 steps) steps ++ foot (length steps) chain

-- The picture of a run, whose members are faulty or not, from what each line did and the digests of
-- its chain. Of the lines the first 2,000 are drawn.
abbrev pub picture : List Bool → List Step → List Digest32 → List ℕ
picture faulty steps chain = picture_of faulty (length steps) (take most_rows steps) chain
