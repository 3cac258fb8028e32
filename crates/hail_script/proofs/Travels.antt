-- How the blocks of a script that is run travel, and that those that travel whole know one epoch.
use Rattle.std.proofs.Common.{◌≡◌, ℕ, ◌+◌, List, [], ◌∷◌, drop, map, Option, Some, None, Result, Ok, Err, refl, subst}
use Rattle.cw_types.specs.Epochs.{single}
use Rattle.cw_rules.specs.World.{Line}
use Rattle.cw_rules.specs.declared.travel.Travel.{Travel}
use Rattle.cw_rules.specs.declared.travel.Travel.TheVariants.{Chunked, Uncut}
use Rattle.hail_script.specs.declared.error.RunError.{RunError}
use Rattle.hail_script.specs.declared.headers.Header.{Header}
use Rattle.hail_script.specs.declared.headers.Header.TheVariants.{Cluster, Several}
use Rattle.hail_script.specs.Grammar as grammar
use Rattle.hail_script.specs.Headers.{header_in, lists_in, one_epoch}
use Rattle.hail_script.specs.Lanes.{Laned, head_in, laned_of, others_in, sizes_in}
use Rattle.hail_script.specs.Pieces.{fields}
use Rattle.hail_script.specs.Pieces as pieces
use Rattle.hail_script.specs.Scenario.{Scenario}
use Rattle.hail_script.proofs.Fitting.{admitted_parts, of_script}

-- blocks travel so, and where they travel whole there is one epoch, of all members
abbrev TravelsBy : Travel → Scenario → Type 0
TravelsBy travel s =
    (s.travel ≡ travel) × (travel ≡ Uncut → s.committees ≡ single s.committees.total)

abbrev SpelledBy : Travel → Result Scenario RunError → Type 0
SpelledBy travel (Ok s) = TravelsBy travel s
SpelledBy travel (Err e) = Unit {0}

one_by : (travel : Travel) (members backlog : ℕ) (events : Result (List Line) RunError)
    → SpelledBy travel (grammar.scenario_of travel (single members) backlog events)
one_by travel members backlog (Ok events) = (refl, λ whole. refl)
one_by travel members backlog (Err e) = tt

several_by : (members backlog span count : ℕ) (more : List (List ℕ))
    (lists : Result (List (List ℕ)) RunError)
    → SpelledBy Chunked (grammar.behind_lists Chunked members backlog span count more lists)
several_by members backlog span count more (Ok lists) =
    go (grammar.events_from (2 + count) (drop count more))
  where
    go : (events : Result (List Line) RunError)
        → SpelledBy Chunked
        (grammar.scenario_of Chunked
        (record { total = members; span = Some span; lists = lists }) backlog events)
    go (Ok events) = (refl, λ no. absurd (let other : Chunked ≡ Uncut = no in cc))
    go (Err e) = tt
several_by members backlog span count more (Err e) = tt

chunks_by : (o : Option Header) (more : List (List ℕ))
    → SpelledBy Chunked (grammar.behind_header Chunked o more)
chunks_by None more = tt
chunks_by (Some (Cluster members backlog)) more =
    one_by Chunked members backlog (grammar.events_from 2 more)
chunks_by (Some (Several members backlog span count)) more =
    several_by members backlog span count more (lists_in count more)

whole_by : (o : Option Header) (more : List (List ℕ))
    → SpelledBy Uncut (grammar.behind_header Uncut (one_epoch o) more)
whole_by None more = tt
whole_by (Some (Cluster members backlog)) more =
    one_by Uncut members backlog (grammar.events_from 2 more)
whole_by (Some (Several members backlog span count)) more = tt

spelled_by : (travel : Travel) (ls : List (List ℕ))
    → SpelledBy travel (grammar.spelled_in travel ls)
spelled_by travel [] = tt
spelled_by Chunked (first ∷ more) = chunks_by (header_in (fields first)) more
spelled_by Uncut (first ∷ more) = whole_by (header_in (fields first)) more

run_by : (travel : Travel) (r : Result Scenario RunError) (t : Scenario)
    → grammar.if_admitted r ≡ Ok t → SpelledBy travel r → TravelsBy travel t
run_by travel (Ok s) t h by =
    subst (λ (x : Scenario). TravelsBy travel x) (admitted_parts s t h).0 by
run_by travel (Err e) t h by = absurd (let no : Err e ≡ Ok t = h in cc)

pub travels : (travel : Travel) (text : List ℕ) (s : Scenario)
    → grammar.script_by travel text ≡ Ok s
    → s.travel ≡ travel
travels travel text s h =
    (run_by travel (grammar.spelled travel text) s h (spelled_by travel (pieces.lines text))).0

pub whole : (text : List ℕ) (s : Scenario) → grammar.whole_script_of text ≡ Ok s
    → s.committees ≡ single s.committees.total
whole text s h =
    (run_by Uncut (grammar.spelled Uncut text) s h (spelled_by Uncut (pieces.lines text))).1 refl

-- those of lanes travel in chunks
pub laned_travels : (text : List ℕ) (x : Laned) → laned_of text ≡ Ok x → x.script.travel ≡ Chunked
laned_travels text x h =
    let rows = others_in (pieces.lines text) in
    let plain = map (λ (row : ℕ × List ℕ). row.1) rows in
    (run_by Chunked (grammar.spelled_in Chunked plain) x.script
    (of_script (head_in (pieces.lines text)) (map (λ (row : ℕ × List ℕ). row.0) rows)
    (sizes_in (pieces.lines text)) (grammar.if_admitted (grammar.spelled_in Chunked plain)) x h)
    (spelled_by Chunked plain)).0
