-- What each line of a run did: which message it brings, and which members are live.
use Rattle.std.specs.Prelude.{ℕ, ◌+◌, ◌&&◌, ◌++◌, ◌∷◌, [], List, map, Bool, true, false, if◌then◌else◌, is_some, nat_lt, Option, Some, None, option_and_then, slice_get, slice_set}
use Rattle.std.specs.Option.{option_map_or}
use Rattle.cw_rules.specs.World.{Ask, Floor, Line, is_to, line_member}
use Rattle.hail_script.specs.Admission.{is_marked}
use Rattle.run_picture.specs.Lines.{ask_of_line, is_cut, number_in}
use Rattle.run_picture.specs.Told.{is_finalization}
use Rattle.run_picture.specs.declared.flights.Flight.{Flight}
use Rattle.run_picture.specs.declared.told.Said.{Said}
use Rattle.run_picture.specs.declared.told.Says.{Says}

-- a line of the script under its number, how many notes a restart found, what was sent, and the
-- heights that were handed out
pub record Step : Type 0 where
  pub number : ℕ
  pub line : Line
  pub found : Option ℕ
  pub sent : List Said
  pub handed : List ℕ

-- ---- messages

-- a message of a row
abbrev pub flight_of : ℕ → Step → Said → Flight
flight_of row s said =
    record { row = row; line = s.number; from = line_member s.line; said = said }

-- all messages in order, of rows from one on; the first is that of number 0
abbrev pub flights_from : ℕ → List Step → List Flight
flights_from row [] = []
flights_from row (s ∷ more) = map (flight_of row s) s.sent ++ flights_from (row + 1) more

-- only a finalization serves as a floor
abbrev pub serves : Ask → Says → Bool
serves (Floor number) says = is_finalization says
serves _ says = true

-- it was sent above the row, goes to the member, and serves for what is asked
abbrev pub reaches : ℕ → ℕ → Ask → Flight → Bool
reaches row member ask f =
    nat_lt f.row row && (is_to member f.said.to && serves ask f.said.says)

abbrev pub if_reaches : ℕ → ℕ → Ask → Flight → Option Flight
if_reaches row member ask f = if reaches row member ask f then Some f else None

-- the message that is asked for, where it reaches the member
abbrev pub taken_flight : List Flight → ℕ → ℕ → Ask → Option Flight
taken_flight flights row member ask =
    option_and_then
    (λ number. option_and_then (if_reaches row member ask) (slice_get flights number))
    (number_in ask)

-- the message that a line brings
abbrev pub brought : List Flight → ℕ → Line → Option Flight
brought flights row line = option_and_then (taken_flight flights row (line_member line))
    (ask_of_line line)

-- ---- members

-- what is asked for is there
abbrev pub is_there : List Flight → ℕ → ℕ → Ask → Bool
is_there flights row member ask =
    if is_some (number_in ask) then is_some (taken_flight flights row member ask) else true

abbrev pub can_be : List Flight → ℕ → Line → Bool
can_be flights row line =
    option_map_or (is_there flights row (line_member line)) (ask_of_line line) false

-- the line asks a live member for what is there
abbrev pub acts : List Flight → ℕ → List Bool → Line → Bool
acts flights row live line = is_marked live (line_member line) && can_be flights row line

-- the member stops at the line
abbrev pub stops : List Flight → ℕ → List Bool → Line → Bool
stops flights row live line = is_cut line && acts flights row live line

-- the live members behind a line
abbrev pub live_after : List Flight → ℕ → List Bool → Step → List Bool
live_after flights row live s =
    if stops flights row live s.line then slice_set live (line_member s.line) false
    else if is_some s.found then slice_set live (line_member s.line) true else live
