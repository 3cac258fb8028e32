-- A report is that of its text, by the laws of runs.
use Rattle.std.proofs.Common.{◌≡◌, ◌≢◌, ℕ, ◌+◌, ◌<◌, Bool, true, false, not, List, [], ◌∷◌, length, map, Option, Some, None, Result, Ok, Err, refl, sym, ap, subst, ◌∙◌, ◌⊎◌, inl, inr}
use Rattle.std.specs.Prelude.{filter, filter_map, if◌then◌else◌}
use Rattle.std.specs.List.{list_any, range_with_len}
use Rattle.cw_base.specs.declared.hash.Digest32.{Digest32}
use Rattle.cw_types.specs.Block.{Block}
use Rattle.cw_rules.specs.Chains.{Clashes, Ends, outcome}
use Rattle.cw_rules.specs.Reached.{IsClash, IsCluster, IsReported, Reaches}
use Rattle.cw_rules.specs.Report.{Entry, Report as Reported, entries_from, handed_in, opening_entry, report_of}
use Rattle.cw_rules.specs.Rules.{Rules}
use Rattle.cw_rules.specs.World.{Line, World, faults, happens, opening}
use Rattle.hail_script.specs.Grammar.{is_faulty_in, script_by}
use Rattle.hail_script.specs.Scenario.{Scenario}
use Rattle.cw_rules.specs.declared.travel.Travel.{Travel}
use Rattle.hail_script.specs.declared.error.RunError.{RunError}
use Rattle.hail_script.specs.declared.error.RunError.TheVariants as error
use Rattle.hail_world.specs.declared.report.Report.{Report}
use Rattle.hail_world.specs.Places.{script_rules}
use Rattle.hail_world.specs.Reports.{IsCause, IsReport, IsRun, honest_numbers, shown_report}
use Rattle.hail_world.specs.Runs.{IsStopped, opened}

-- an entry for each honest member
pub openers : (r : Rules) (lines : List Line) (ids : List ℕ)
    → map (λ e. e.member) (filter_map (opening_entry r lines) ids)
    ≡ map Some (filter (λ i. not (is_faulty_in lines i)) ids)
openers r lines [] = refl
openers r lines (i ∷ ids) = go (list_any (faults i) lines) refl (openers r lines ids)
  where
    go : (t : Bool) → list_any (faults i) lines ≡ t
        → map (λ e. e.member) (filter_map (opening_entry r lines) ids)
        ≡ map Some (filter (λ i. not (is_faulty_in lines i)) ids)
        → map (λ e. e.member) (filter_map (opening_entry r lines) (i ∷ ids))
        ≡ map Some (filter (λ i. not (is_faulty_in lines i)) (i ∷ ids))
    go true e more = rw e more
    go false e more = rw e (ap (λ (l : List (Option ℕ)). Some i ∷ l) more)

-- an entry for each line
many : (r : Rules) (w : World) (number : ℕ) (lines : List Line)
    → length (entries_from r w number lines) ≡ length lines
many r w number [] = refl
many r w number (line ∷ lines) = rw (many r (happens r w line) (number + 1) lines) refl

pub reported : {H W : Type 0} (travel : Travel) (hash : List ℕ → Digest32) (text : List ℕ)
    (s : Scenario)
    (report : Report H W)
    → script_by travel text ≡ Ok s → (h : IsRun hash s report)
    → IsCluster (script_rules hash s) s.lines
    → IsReported (script_rules hash s) h.world (handed_in (script_rules hash s) s.lines)
    (report_of (script_rules hash s) s.lines h.world).chain
    → IsReport travel hash text report
reported travel hash text s report spells h cluster law = record {
  script = s;
  in_grammar = spells;
  run = h;
  cluster = cluster;
  opened =
      ap (λ (r : Reported). map (λ (e : Entry). e.member) r.opening) h.told
      ∙ openers (script_rules hash s) s.lines (range_with_len 0 s.committees.total);
  stepped =
      ap (λ (r : Reported). length r.steps) h.told
      ∙ many (script_rules hash s) (opened hash s) _ s.lines;
  chain =
      subst
      (λ (l : List Block). IsReported (script_rules hash s) h.world
      (handed_in (script_rules hash s) s.lines) l)
      (sym (ap (λ (r : Reported). r.chain) h.told)) law;
}

-- why there is no report
pub caused : (travel : Travel) (hash : List ℕ → Digest32) (text : List ℕ) (s : Scenario)
    (e : RunError)
    → script_by travel text ≡ Ok s
    → ((earlier later : List ℕ)
    → outcome (script_rules hash s) (opened hash s) s.lines ≡ Clashes earlier later
    → (w : World) × Reaches (script_rules hash s) s.lines w
    × IsClash (script_rules hash s) w earlier later)
    → ((earlier later : List ℕ)
    → outcome (script_rules hash s) (opened hash s) s.lines ≡ Clashes earlier later → earlier
    ≢ later)
    → IsStopped (script_rules hash s) (opened hash s) s.lines e → IsCause travel hash text e
caused travel hash text s error.NoMemory spells law differ h = tt
caused travel hash text s (error.HashClash earlier later) spells law differ h =
    let shows = law earlier later h in (
      s,
      spells,
      record {
        ends = h;
        world = shows.0;
        reached = shows.1;
        shown = shows.2;
        texts = differ earlier later h;
      },
    )
caused travel hash text s error.BadCommittee spells law differ h = absurd h
caused travel hash text s error.TooManyFaulty spells law differ h = absurd h
caused travel hash text s (error.Syntax line) spells law differ h = absurd h
caused travel hash text s (error.UnknownMember line) spells law differ h = absurd h
caused travel hash text s (error.OversizeBlock line) spells law differ h = absurd h
