-- The line that is due for what was found.
use Rattle.std.proofs.Common.{◌≡◌, ℕ, Bool, true, List, Option, Some, None, Ok, sym, ◌∙◌, ap, subst}
use Rattle.cw_base.specs.declared.hash.Digest32.{Digest32}
use Rattle.cw_types.specs.Block.{Block}
use Rattle.cw_types.specs.Epochs.{Epochs}
use Rattle.cw_rules.specs.Reached.{IsCluster}
use Rattle.cw_rules.specs.Report.{Entry, Report as Reported}
use Rattle.cw_rules.specs.World.{signed}
use Rattle.cw_light.specs.Believing.{IsLinkAt}
use Rattle.cw_light.specs.Checking.{light_answer}
use Rattle.cw_light.specs.declared.check.Answer.TheVariants.{Yes}
use Rattle.cw_rules_coded.specs.Coded.{coded, ruled}
use Rattle.cw_rules.specs.declared.travel.Travel.TheVariants as travel
use Rattle.hail_script.specs.Grammar.{faulty_marks}
use Rattle.hail_script.specs.Scenario.{Scenario}
use Rattle.hail_world.specs.declared.report.Ran.{Ran}
use Rattle.node.specs.declared.way.Chunked.{Chunked}
use Rattle.hail_world.specs.declared.report.Report.{Report}
use Rattle.hail_world.specs.Places.{script_rules, table}
use Rattle.hail_report.specs.Pool.{sent_in}
use Rattle.hail_world.specs.Programs.{WasRun}
use Rattle.hail_world.specs.Reports.{IsRun, honest}
use Rattle.run_light.specs.Finding.{found_in}
use Rattle.run_light.specs.Telling.{IsToldRun, Tells, TellsOf, none_line, yes_line}
use Rattle.run_light.specs.declared.search.Shown.{Shown}
use Rattle.run_light.proofs.Showing.{found_told}
use Rattle.run_light.proofs.Tables.{table_is}

module _ {H : Type 0} (hash : List ℕ → Digest32) (height : ℕ) (s : Scenario)
    (report : Report H Chunked) (x : IsRun hash s report)
    (cluster : IsCluster (script_rules hash s) s.lines) where
  abbrev found : Option Shown
  found = found_in (script_rules hash s) (signed x.world) height (honest x.world)

  pub tells_none : (due : List ℕ) → found ≡ None → due ≡ none_line
      → TellsOf hash height s report x due
  tells_none due e h =
      subst (λ (o : Option Shown). Tells (script_rules hash s) report.chain height o due) (sym e) h

  -- what a light client is told of it
  pub told_yes : (shown : Shown) → found ≡ Some shown
      → (d : Digest32)
      × (light_answer (script_rules hash s) (signed x.world) shown.cert shown.path ≡ Yes height d)
      × IsLinkAt (script_rules hash s) report.chain shown.path height d
  told_yes shown e =
      let (d, told, link) =
      found_told (script_rules hash s) s.lines x.world cluster x.ends height shown e in (
        d,
        told,
        subst (λ (links : List Block). IsLinkAt (script_rules hash s) links shown.path height d)
            (sym (ap (λ (y : Reported). y.chain) x.told)) link,
      )

  pub tells_some : (shown : Shown) (due : List ℕ) → found ≡ Some shown
      → ((d : Digest32)
      → light_answer (script_rules hash s) (signed x.world) shown.cert shown.path ≡ Yes height d
      → due ≡ yes_line height d)
      → TellsOf hash height s report x due
  tells_some shown due e h =
      let (d, told, link) = told_yes shown e in
      subst (λ (o : Option Shown). Tells (script_rules hash s) report.chain height o due) (sym e)
      (d, h d told, link)

  -- the same, by what the program has of the committees, the marks and the entries
  module _ (committees : Epochs) (faulty : List Bool) (steps : List Entry)
      (way : travel.Chunked ≡ s.travel) (ec : committees ≡ s.committees)
      (ef : faulty ≡ faulty_marks s.lines s.committees.total) (es : steps ≡ report.steps) where
    sign : table faulty (sent_in steps) ≡ signed x.world
    sign = ap (λ (l : List Entry). table faulty (sent_in l)) es ∙ table_is hash s report x faulty ef

    pub found_is : found_in (coded hash committees s.backlog (λ b a. true))
        (table faulty (sent_in steps)) height (honest x.world)
        ≡ found
    found_is =
        λ i. found_in (ruled (way i) hash (ec i) s.backlog (λ b a. true)) (sign i) height
        (honest x.world)

    pub answer_is : (shown : Shown)
        → light_answer (coded hash committees s.backlog (λ b a. true))
        (table faulty (sent_in steps))
        shown.cert shown.path
        ≡ light_answer (script_rules hash s) (signed x.world) shown.cert shown.path
    answer_is shown =
        λ i. light_answer (ruled (way i) hash (ec i) s.backlog (λ b a. true)) (sign i) shown.cert
        shown.path

-- so for a text that was read
pub told_run : {H : Type 0} (hash : List ℕ → Digest32) (height : ℕ) (text : List ℕ)
    (rest : Option (List ℕ)) (ran : Ran H Chunked) (due : List ℕ)
    → WasRun travel.Chunked hash text rest ran
    → ((x : IsRun hash ran.script ran.report) → TellsOf hash height ran.script ran.report x due)
    → IsToldRun hash height text ran.report due
told_run hash height text rest ran due h all =
    record { reported = h.report; told = subst Told (sym same) all h.report.run }
  where
    Told : Scenario → Type 0
    Told s = (x : IsRun hash s ran.report) → TellsOf hash height s ran.report x due

    same : h.report.script ≡ ran.script
    same = let e : Ok h.report.script ≡ Ok ran.script = sym h.report.in_grammar ∙ h.spells in cc
