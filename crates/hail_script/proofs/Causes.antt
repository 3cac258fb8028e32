-- A text that isn't run has a cause that is tested before a run.
use Rattle.std.proofs.Common.{◌≡◌, ℕ, ◌+◌, Bool, true, false, not, nat_lt, List, [], ◌∷◌, length, drop, map, take, Option, Some, None, Result, Ok, Err, subst}
use Rattle.std.specs.Prelude.{if◌then◌else◌}
use Rattle.std.specs.List.{list_all}
use Rattle.cw_types.specs.Epochs.{Epochs, single}
use Rattle.cw_rules.specs.World.{Line}
use Rattle.cw_rules.specs.declared.travel.Travel.{Travel}
use Rattle.cw_rules.specs.declared.travel.Travel.TheVariants.{Chunked}
use Rattle.hail_script.specs.declared.error.RunError.{RunError}
use Rattle.hail_script.specs.declared.error.RunError.TheVariants as error
use Rattle.hail_script.specs.declared.headers.Header.{Header}
use Rattle.hail_script.specs.declared.headers.Header.TheVariants.{Cluster, Several}
use Rattle.hail_script.specs.Grammar as grammar
use Rattle.hail_script.specs.Grammar.{IsEarly}
use Rattle.hail_script.specs.Headers.{header_by, if_enough, list_in, lists_from, lists_in, with_list}
use Rattle.hail_script.specs.Lanes.{Laned, head_in, laned_by, laned_of, others_in, sizes_in, told}
use Rattle.hail_script.specs.Lines.{event_in}
use Rattle.hail_script.specs.Pieces.{fields, lines}
use Rattle.hail_script.specs.Scenario.{Scenario}

abbrev IsFine : {X : Type 0} → Result X RunError → Type 0
IsFine (Ok x) = Unit {0}
IsFine (Err e) = IsEarly e

with_event : (o : Option Line) (at : ℕ) (rest : Result (List Line) RunError) → IsFine rest
    → IsFine (grammar.with_event o at rest)
with_event None at rest h = tt
with_event (Some event) at (Ok events) h = tt
with_event (Some event) at (Err e) h = h

events_fine : (at : ℕ) (ls : List (List ℕ)) → IsFine (grammar.events_from at ls)
events_fine at [] = tt
events_fine at (l ∷ ls) =
    with_event (event_in (fields l)) at (grammar.events_from (at + 1) ls) (events_fine (at + 1) ls)

list_fine : (o : Option (List ℕ)) (at : ℕ) (rest : Result (List (List ℕ)) RunError) → IsFine rest
    → IsFine (with_list o at rest)
list_fine None at rest h = tt
list_fine (Some list) at (Ok lists) h = tt
list_fine (Some list) at (Err e) h = h

lists_fine : (at : ℕ) (ls : List (List ℕ)) → IsFine (lists_from at ls)
lists_fine at [] = tt
lists_fine at (l ∷ ls) =
    list_fine (list_in (fields l)) at (lists_from (at + 1) ls) (lists_fine (at + 1) ls)

if_fine : {X : Type 0} (t : Bool) (e : RunError) (rest : Result X RunError) → IsEarly e
    → IsFine rest → IsFine (let r : Result X RunError = if t then Err e else rest in r)
if_fine true e rest h k = h
if_fine false e rest h k = k

enough_fine : (count there : ℕ) (r : Result (List (List ℕ)) RunError) → IsFine r
    → IsFine (if_enough count there r)
enough_fine count there (Ok lists) h =
    if_fine (nat_lt there count) (error.Syntax (2 + there)) (Ok lists) tt tt
enough_fine count there (Err e) h = h

scenario_fine : (travel : Travel) (x : Epochs) (backlog : ℕ) (r : Result (List Line) RunError)
    → IsFine r → IsFine (grammar.scenario_of travel x backlog r)
scenario_fine travel x backlog (Ok events) h = tt
scenario_fine travel x backlog (Err e) h = h

behind_fine : (travel : Travel) (members backlog span count : ℕ) (more : List (List ℕ))
    (r : Result (List (List ℕ)) RunError)
    → IsFine r → IsFine (grammar.behind_lists travel members backlog span count more r)
behind_fine travel members backlog span count more (Ok lists) h =
    scenario_fine travel _ backlog (grammar.events_from (2 + count) (drop count more))
    (events_fine (2 + count) (drop count more))
behind_fine travel members backlog span count more (Err e) h = h

header_fine : (travel : Travel) (o : Option Header) (more : List (List ℕ))
    → IsFine (grammar.behind_header travel o more)
header_fine travel None more = tt
header_fine travel (Some (Cluster members backlog)) more =
    scenario_fine travel (single members) backlog (grammar.events_from 2 more) (events_fine 2 more)
header_fine travel (Some (Several members backlog span count)) more =
    behind_fine travel members backlog span count more (lists_in count more)
    (enough_fine count (length more) (lists_from 2 (take count more))
    (lists_fine 2 (take count more)))

spelled_fine : (travel : Travel) (ls : List (List ℕ)) → IsFine (grammar.spelled_in travel ls)
spelled_fine travel [] = tt
spelled_fine travel (first ∷ more) = header_fine travel (header_by travel (fields first)) more

refused_fine : (cause : ℕ → RunError) → ((at : ℕ) → IsEarly (cause at))
    → (o : Option ℕ) (rest : Result Scenario RunError) → IsFine rest
    → IsFine (grammar.refused_at cause o rest)
refused_fine cause early None rest h = h
refused_fine cause early (Some at) rest h = early at

admitted_fine : (s : Scenario) → IsFine (grammar.admitted s)
admitted_fine s =
    if_fine (not (grammar.is_sized s.committees)) error.BadCommittee _ tt
    (refused_fine error.UnknownMember (λ at. tt) (grammar.unknown_at s) _
    (if_fine (not (list_all (grammar.bears s.lines) s.committees.lists)) error.TooManyFaulty _ tt
    (refused_fine error.OversizeBlock (λ at. tt) (grammar.oversize_at s) (Ok s) tt)))

all_fine : (r : Result Scenario RunError) → IsFine r → IsFine (grammar.if_admitted r)
all_fine (Ok s) h = admitted_fine s
all_fine (Err e) h = h

pub early : (travel : Travel) (text : List ℕ) (e : RunError) → grammar.script_by travel text ≡ Err e
    → IsEarly e
early travel text e h =
    subst (λ (r : Result Scenario RunError). IsFine r) h
    (all_fine (grammar.spelled travel text) (spelled_fine travel (lines text)))

-- ---- scripts with lanes

told_early : (numbers : List ℕ) (e : RunError) → IsEarly e → IsEarly (told numbers e)
told_early numbers (error.Syntax at) h = tt
told_early numbers error.BadCommittee h = tt
told_early numbers (error.UnknownMember at) h = tt
told_early numbers error.TooManyFaulty h = tt
told_early numbers (error.OversizeBlock at) h = tt
told_early numbers (error.HashClash earlier later) h = absurd h
told_early numbers error.NoMemory h = absurd h

by_fine : (head : ℕ) (numbers sizes : List ℕ) (r : Result Scenario RunError) → IsFine r
    → IsFine (laned_by head numbers sizes r)
by_fine head numbers sizes (Ok s) h = tt
by_fine head numbers sizes (Err e) h = told_early numbers e h

pub laned_early : (text : List ℕ) (e : RunError) → laned_of text ≡ Err e → IsEarly e
laned_early text e h =
    let rows = others_in (lines text) in
    let plain = map (λ (row : ℕ × List ℕ). row.1) rows in
    subst (λ (r : Result Laned RunError). IsFine r) h
    (by_fine (head_in (lines text)) (map (λ (row : ℕ × List ℕ). row.0) rows) (sizes_in (lines text))
    (grammar.if_admitted (grammar.spelled_in Chunked plain))
    (all_fine (grammar.spelled_in Chunked plain) (spelled_fine Chunked plain)))
