-- The header of a script: one epoch without end, or epochs of a length with a list of members for
-- each.
use Rattle.std.specs.Prelude.{[], ℕ, ◌&&◌, ◌+◌, ◌∷◌, ◌≤◌, Err, List, None, Ok, Option, Result, Some, bytes_eq, codes, if◌then◌else◌, length, nat_le, nat_lt, take}
use Rattle.cw_types.specs.Epochs.{rises_from}
use Rattle.cw_rules.specs.declared.travel.Travel.{Travel}
use Rattle.cw_rules.specs.declared.travel.Travel.TheVariants.{Chunked, Uncut}
use Rattle.hail_script.specs.declared.headers.Header.{Header}
use Rattle.hail_script.specs.declared.headers.Header.TheVariants.{Cluster, Several}
use Rattle.hail_script.specs.Pieces.{fields, number, numbers}
use Rattle.hail_script.specs.declared.error.RunError.{RunError}
use Rattle.hail_script.specs.declared.error.RunError.TheVariants.{Syntax}

-- a backlog of at least 1
abbrev pub cluster_of : Option ℕ → Option ℕ → Option Header
cluster_of None backlog = None
cluster_of (Some members) None = None
cluster_of (Some members) (Some backlog) =
    if nat_lt 0 backlog then Some (Cluster members backlog) else None

-- at least 1 each, and at most 64 lists
abbrev pub several_of : Option ℕ → Option ℕ → Option ℕ → Option ℕ → Option Header
several_of None backlog span count = None
several_of (Some members) None span count = None
several_of (Some members) (Some backlog) None count = None
several_of (Some members) (Some backlog) (Some span) None = None
several_of (Some members) (Some backlog) (Some span) (Some count) =
    if nat_lt 0 backlog && (nat_lt 0 span && (nat_lt 0 count && nat_le count 64))
    then Some (Several members backlog span count) else None

-- `cluster N B` or `epochs N B L E`
abbrev pub header_in : List (List ℕ) → Option Header
header_in (word ∷ members ∷ backlog ∷ []) =
    if bytes_eq word (codes "cluster") then cluster_of (number members) (number backlog) else None
header_in (word ∷ members ∷ backlog ∷ span ∷ count ∷ []) =
    if bytes_eq word (codes "epochs")
    then several_of (number members) (number backlog) (number span) (number count) else None
header_in _ = None

-- a header of one epoch without end
abbrev pub one_epoch : Option Header → Option Header
one_epoch (Some (Cluster members backlog)) = Some (Cluster members backlog)
one_epoch _ = None

-- the same, where blocks travel so: those that travel whole know one epoch
abbrev pub header_by : Travel → List (List ℕ) → Option Header
header_by Chunked parts = header_in parts
header_by Uncut parts = one_epoch (header_in parts)

-- numbers that rise strictly, of which there is one
abbrev pub rising : Option (List ℕ) → Option (List ℕ)
rising None = None
rising (Some []) = None
rising (Some (first ∷ more)) = if rises_from 0 (first ∷ more) then Some (first ∷ more) else None

-- `members M M ..`
abbrev pub list_in : List (List ℕ) → Option (List ℕ)
list_in [] = None
list_in (word ∷ members) =
    if bytes_eq word (codes "members") then rising (numbers members) else None

-- a list before the others
abbrev pub with_list : Option (List ℕ) → ℕ → Result (List (List ℕ)) RunError
    → Result (List (List ℕ)) RunError
with_list None at rest = Err (Syntax at)
with_list (Some list) at (Ok lists) = Ok (list ∷ lists)
with_list (Some list) at (Err e) = Err e

-- the lists of lines from a number on, or the first line that is none
abbrev pub lists_from : ℕ → List (List ℕ) → Result (List (List ℕ)) RunError
lists_from at [] = Ok []
lists_from at (line ∷ lines) = with_list (list_in (fields line)) at (lists_from (at + 1) lines)

-- lists, where there are lines for so many; else the line behind the last is missed
abbrev pub if_enough : ℕ → ℕ → Result (List (List ℕ)) RunError → Result (List (List ℕ)) RunError
if_enough count there (Ok lists) = if nat_lt there count then Err (Syntax (2 + there)) else Ok lists
if_enough count there (Err e) = Err e

-- so many lists behind line 1
abbrev pub lists_in : ℕ → List (List ℕ) → Result (List (List ℕ)) RunError
lists_in count lines = if_enough count (length lines) (lists_from 2 (take count lines))

-- the numbers of a header that is read
abbrev pub IsHeader : Header → Type 0
IsHeader (Cluster members backlog) = 1 ≤ backlog
IsHeader (Several members backlog span count) =
    (1 ≤ backlog) × (1 ≤ span) × (1 ≤ count) × (count ≤ 64)
