-- Which texts are scripts, and which scripts are run.
use Rattle.std.specs.Prelude.{[], ℕ, ⊤, ◌&&◌, ◌+◌, ◌^◌, ◌∷◌, ◌≡◌, Bool, Err, IsTrue, List, None, Ok, Option, Result, Some, count_by, drop, false, if◌then◌else◌, length, map, nat_le, nat_lt, not, true}
use Rattle.std.specs.List.{list_all, list_any, range_with_len}
use Rattle.std.specs.Option.{option_map_or, option_or}
use Rattle.cw_types.specs.Epochs.{Epochs, single}
use Rattle.cw_types.specs.Numbers.{max_faults}
use Rattle.cw_rules.specs.World.{Ask, Cut, Do, Fault, Faulty, Line, Offer, Propose, faults, line_member}
use Rattle.cw_rules.specs.declared.travel.Travel.{Travel}
use Rattle.cw_rules.specs.declared.travel.Travel.TheVariants.{Chunked, Uncut}
use Rattle.hail_script.specs.declared.error.RunError.{RunError}
use Rattle.hail_script.specs.declared.error.RunError.TheVariants.{BadCommittee, HashClash, NoMemory, OversizeBlock, Syntax, TooManyFaulty, UnknownMember}
use Rattle.hail_script.specs.declared.headers.Header.{Header}
use Rattle.hail_script.specs.declared.headers.Header.TheVariants.{Cluster, Several}
use Rattle.hail_script.specs.Headers.{header_by, lists_in}
use Rattle.hail_script.specs.Lines.{event_in}
use Rattle.hail_script.specs.Pieces.{fields, lines}
use Rattle.hail_script.specs.Scenario.{Scenario}

-- ---- which texts are scripts

-- an event before the others, if they are events
abbrev pub with_event : Option Line → ℕ → Result (List Line) RunError → Result (List Line) RunError
with_event None at rest = Err (Syntax at)
with_event (Some event) at (Ok events) = Ok (event ∷ events)
with_event (Some event) at (Err e) = Err e

-- the events of the lines from a number on, or the first line that is none
abbrev pub events_from : ℕ → List (List ℕ) → Result (List Line) RunError
events_from at [] = Ok []
events_from at (line ∷ more) = with_event (event_in (fields line)) at (events_from (at + 1) more)

-- the way of blocks, the committees and the backlog before the events, if they are events
abbrev pub scenario_of : Travel → Epochs → ℕ → Result (List Line) RunError
    → Result Scenario RunError
scenario_of travel committees backlog (Ok events) =
    Ok (record { travel = travel; committees = committees; backlog = backlog; lines = events })
scenario_of travel committees backlog (Err e) = Err e

-- the lists of a header of epochs, and the events behind them
abbrev pub behind_lists : Travel → ℕ → ℕ → ℕ → ℕ → List (List ℕ)
    → Result (List (List ℕ)) RunError → Result Scenario RunError
behind_lists travel members backlog span count more (Ok lists) =
    scenario_of travel (record { total = members; span = Some span; lists = lists }) backlog
    (events_from (2 + count) (drop count more))
behind_lists travel members backlog span count more (Err e) = Err e

-- what stands behind line 1
abbrev pub behind_header : Travel → Option Header → List (List ℕ) → Result Scenario RunError
behind_header travel None more = Err (Syntax 1)
behind_header travel (Some (Cluster members backlog)) more =
    scenario_of travel (single members) backlog (events_from 2 more)
behind_header travel (Some (Several members backlog span count)) more =
    behind_lists travel members backlog span count more (lists_in count more)

-- line 1 is the header, with the lists of its epochs behind it, and each further line is an event
abbrev pub spelled_in : Travel → List (List ℕ) → Result Scenario RunError
spelled_in travel [] = Err (Syntax 1)
spelled_in travel (first ∷ more) = behind_header travel (header_by travel (fields first)) more

-- the script that a text spells, or the first line outside the grammar
abbrev pub spelled : Travel → List ℕ → Result Scenario RunError
spelled travel text = spelled_in travel (lines text)

-- ---- which scripts are run

-- the number of the first for which the test holds, counted from a number on
abbrev pub first_at : {X : Type 0} → (X → Bool) → ℕ → List X → Option ℕ
first_at test at [] = None
first_at test at (x ∷ xs) = if test x then Some at else first_at test (at + 1) xs

-- the number of the first event line: a header is line 1, and one line more for each list of epochs
abbrev pub first_event : Epochs → ℕ
first_event x = option_map_or (λ span. 2 + length x.lists) x.span 2

-- 4 to 65,535 members, and at least four in each list
abbrev pub is_sized : Epochs → Bool
is_sized x =
    nat_le 4 x.total
    && (nat_lt x.total (2 ^ 16) && list_all (λ list. nat_le 4 (length list)) x.lists)

-- the list has a member past the last
abbrev pub has_stranger : ℕ → List ℕ → Bool
has_stranger total list = not (list_all (λ i. nat_lt i total) list)

-- the line names a member past the last
abbrev pub names_stranger : ℕ → Line → Bool
names_stranger total line = not (nat_lt (line_member line) total)

-- the first line that names a member past the last
abbrev pub unknown_at : Scenario → Option ℕ
unknown_at s =
    option_or (first_at (has_stranger s.committees.total) 2 s.committees.lists)
    (first_at (names_stranger s.committees.total) (first_event s.committees) s.lines)

-- some line makes the member faulty
abbrev pub is_faulty_in : List Line → ℕ → Bool
is_faulty_in lines i = list_any (faults i) lines

-- for each member, whether some line makes it faulty
abbrev pub faulty_marks : List Line → ℕ → List Bool
faulty_marks lines total = map (is_faulty_in lines) (range_with_len 0 total)

-- the lines make at most f members of the list faulty
abbrev pub bears : List Line → List ℕ → Bool
bears lines list = nat_le (count_by (is_faulty_in lines) list) (max_faults (length list))

-- a payload of more than 1,048,576 bytes
abbrev pub is_oversize : List ℕ → Bool
is_oversize payload = nat_lt 1048576 (length payload)

abbrev pub asks_oversize : Ask → Bool
asks_oversize (Propose payload) = is_oversize payload
asks_oversize _ = false

abbrev pub offers_oversize : Fault → Bool
offers_oversize (Offer view payload) = is_oversize payload
offers_oversize _ = false

-- the line proposes or offers one
abbrev pub names_oversize : Line → Bool
names_oversize (Do member ask) = asks_oversize ask
names_oversize (Cut call cut fill member ask) = asks_oversize ask
names_oversize (Faulty member fault) = offers_oversize fault
names_oversize _ = false

-- the first line that does
abbrev pub oversize_at : Scenario → Option ℕ
oversize_at s = first_at names_oversize (first_event s.committees) s.lines

-- a stop comes at a device call from 1 on
abbrev pub is_later : Line → Bool
is_later (Cut call cut fill member ask) = nat_lt 0 call
is_later _ = true

-- the cause, where there is one
abbrev pub refused_at : (ℕ → RunError) → Option ℕ → Result Scenario RunError
    → Result Scenario RunError
refused_at cause None rest = rest
refused_at cause (Some at) rest = Err (cause at)

-- a script of the grammar, or the first cause for which it isn't run
abbrev pub admitted : Scenario → Result Scenario RunError
admitted s =
    if not (is_sized s.committees) then Err BadCommittee
    else refused_at UnknownMember (unknown_at s)
    (if not (list_all (bears s.lines) s.committees.lists) then Err TooManyFaulty
    else refused_at OversizeBlock (oversize_at s) (Ok s))

-- the script, where it is run
abbrev pub if_admitted : Result Scenario RunError → Result Scenario RunError
if_admitted (Ok s) = admitted s
if_admitted (Err e) = Err e

-- the script that a text spells, or the first cause for which it isn't run, where blocks travel so
abbrev pub script_by : Travel → List ℕ → Result Scenario RunError
script_by travel text = if_admitted (spelled travel text)

-- the same of blocks that travel in chunks
abbrev pub script_of : List ℕ → Result Scenario RunError
script_of text = script_by Chunked text

-- and of blocks that travel whole
abbrev pub whole_script_of : List ℕ → Result Scenario RunError
whole_script_of text = script_by Uncut text

-- a cause that is tested before a run
abbrev pub IsEarly : RunError → Type 0
IsEarly NoMemory = ⊥
IsEarly (HashClash earlier later) = ⊥
IsEarly _ = ⊤

-- what is known of a script that is run
pub record IsRunnable (s : Scenario) : Type 0 where
  pub sized : IsTrue (is_sized s.committees)
  pub known : unknown_at s ≡ None
  pub few : IsTrue (list_all (bears s.lines) s.committees.lists)
  pub short : oversize_at s ≡ None
  pub later : IsTrue (list_all is_later s.lines)
