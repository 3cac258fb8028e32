-- Scripts with lanes: lanes of events that run beside each other, behind events that come before
-- all of them. Their blocks travel in chunks.
use Rattle.std.specs.Prelude.{[], ℕ, ◌&&◌, ◌+◌, ◌++◌, ◌-◌, ◌∷◌, Bool, Err, List, Ok, Option, Result, Some, bytes_eq, codes, drop, if◌then◌else◌, length, map, nat_lt, slice_get, slice_index, take}
use Rattle.std.specs.List.{enumerate_from}
use Rattle.std.specs.Option.{option_map_or}
use Rattle.cw_rules.specs.World.{Line}
use Rattle.cw_rules.specs.declared.travel.Travel.TheVariants.{Chunked}
use Rattle.hail_script.specs.declared.error.RunError.{RunError}
use Rattle.hail_script.specs.declared.error.RunError.TheVariants.{OversizeBlock, Syntax, UnknownMember}
use Rattle.hail_script.specs.declared.headers.Header.{Header}
use Rattle.hail_script.specs.declared.headers.Header.TheVariants.{Several}
use Rattle.hail_script.specs.Grammar.{if_admitted, spelled_in}
use Rattle.hail_script.specs.Headers.{header_in}
use Rattle.hail_script.specs.Pieces.{fields, lines}
use Rattle.hail_script.specs.Scenario.{Scenario}

-- ---- which texts are scripts with lanes

-- how many lines stand before the events: the header, and a list for each epoch
abbrev pub head_of : Option Header → ℕ
head_of (Some (Several members backlog span count)) = 1 + count
head_of _ = 1

abbrev pub head_in : List (List ℕ) → ℕ
head_in [] = 1
head_in (first ∷ more) = head_of (header_in (fields first))

-- the line of that number is `lane`, behind the head, and so many lanes may begin yet
abbrev pub begins : ℕ → ℕ → ℕ → List ℕ → Bool
begins head left at line = nat_lt head at && (nat_lt 0 left && bytes_eq line (codes "lane"))

-- the lines from a number on that begin no lane, each under its number
abbrev pub others_from : ℕ → ℕ → ℕ → List (List ℕ) → List (ℕ × List ℕ)
others_from head left at [] = []
others_from head left at (line ∷ more) =
    if begins head left at line then others_from head (left - 1) (at + 1) more
    else (at, line) ∷ others_from head left (at + 1) more

-- one event more, if the line stands behind the head
abbrev pub counted_event : ℕ → ℕ → ℕ → ℕ
counted_event head at count = if nat_lt head at then count + 1 else count

-- how many events stand before each lane, behind the beginning of the one before it
abbrev pub sizes_from : ℕ → ℕ → ℕ → ℕ → List (List ℕ) → List ℕ
sizes_from head left at count [] = []
sizes_from head left at count (line ∷ more) =
    if begins head left at line then count ∷ sizes_from head (left - 1) (at + 1) 0 more
    else sizes_from head left (at + 1) (counted_event head at count) more

abbrev pub sizes_in : List (List ℕ) → List ℕ
sizes_in text = sizes_from (head_in text) 64 1 0 text

-- where no lane begins, the line behind the last is missed: it reads as an empty one, which is
-- outside the grammar
abbrev pub missed : List ℕ → ℕ → List (ℕ × List ℕ)
missed [] count = (count + 1, []) ∷ []
missed (size ∷ sizes) count = []

-- all lines but those of the first 64 lanes, each under its number
abbrev pub others_in : List (List ℕ) → List (ℕ × List ℕ)
others_in text = others_from (head_in text) 64 1 text ++ missed (sizes_in text) (length text)

-- the number of a line by its place among these
abbrev pub line_number_at : List ℕ → ℕ → ℕ
line_number_at numbers at = option_map_or (λ number. number) (slice_get numbers (at - 1)) at

-- a cause, with the number of its line in the text
abbrev pub told : List ℕ → RunError → RunError
told numbers (Syntax at) = Syntax (line_number_at numbers at)
told numbers (UnknownMember at) = UnknownMember (line_number_at numbers at)
told numbers (OversizeBlock at) = OversizeBlock (line_number_at numbers at)
told numbers e = e

-- a script with lanes: the script of all its event lines, the number of each, and how many events
-- stand before each lane, behind the beginning of the one before it
pub record Laned : Type 0 where
  pub script : Scenario
  pub numbers : List ℕ
  pub sizes : List ℕ

-- the numbers of the lines of a script, its head included, and the lanes beside it
abbrev pub laned_by : ℕ → List ℕ → List ℕ → Result Scenario RunError → Result Laned RunError
laned_by head numbers sizes (Ok script) =
    Ok (record { script = script; numbers = drop head numbers; sizes = sizes })
laned_by head numbers sizes (Err e) = Err (told numbers e)

-- the script that the lines make without those that begin lanes, with the lanes beside it
abbrev pub laned_in : List (List ℕ) → Result Laned RunError
laned_in text =
    laned_by (head_in text) (map (λ row. row.0) (others_in text)) (sizes_in text)
    (if_admitted (spelled_in Chunked (map (λ row. row.1) (others_in text))))

-- the script with lanes that a text spells, or the first cause for which it isn't run
abbrev pub laned_of : List ℕ → Result Laned RunError
laned_of text = laned_in (lines text)

-- ---- the lines of each lane

-- the event lines, each under its number
abbrev pub rows : Laned → List (ℕ × Line)
rows x = map (λ at. (slice_index x.numbers at.0, at.1)) (enumerate_from 0 x.script.lines)

-- a list cut into runs of these lengths, and the rest of it
abbrev pub cut : {X : Type 0} → List ℕ → List X → List (List X)
cut [] xs = xs ∷ []
cut (size ∷ sizes) xs = take size xs ∷ cut sizes (drop size xs)

-- the lines before the first lane
abbrev pub prefix : Laned → List (ℕ × Line)
prefix x = option_map_or (λ run. run) (slice_get (cut x.sizes (rows x)) 0) []

-- the lines of each lane
abbrev pub lanes : Laned → List (List (ℕ × Line))
lanes x = drop 1 (cut x.sizes (rows x))
