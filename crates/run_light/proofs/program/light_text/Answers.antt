use Rattle.std.proofs.Common.{◌≡◌, ◌∙◌, ℕ, true, List, refl, sym, ap, subst}
use Rattle.std.proofs.lemmas.Result.{IfOk-weaker}
use Rattle.cw_base.specs.declared.hash.Digest32.{Digest32}
use Rattle.hail_script.specs.Scenario.{Scenario}
use Rattle.hail_world.specs.Places.{script_rules}
use Rattle.hail_world.specs.Reports.{HoldNotes, honest}
use Rattle.run_light.specs.Telling.{TellsOf, none_line, yes_line}
use Rattle.run_light.proofs.Telling.{answer_is, found_is, tells_none, tells_some, told_yes}
use Rattle.run_light.proofs.program.light_text.Goals as goal

pub returns-in-None : goal.returns-in-None
returns-in-None g c = λ run.
    let hash = g.H.Hasher.digest_of in
    let s : Scenario = c.args.script.now in
    let report = c.args.report.now in
    let height : ℕ = c.args.height in
    let cluster = c.is_cluster.ensures (script_rules hash s) refl in
    let holds =
    subst (λ (disks : List (List ℕ)). HoldNotes (honest run.world) disks)
    (sym c.as_slice-disks.ensures) run.disks in
    let found =
    sym
    (found_is hash height s report run cluster c.in_ok-committees.committees
    c.deref.result.now c.as_slice-steps.result.now (sym c.requires.way) c.in_ok-committees.ensures
    (c.deref.ensures.value ∙ c.in_ok-faulty.ensures) c.as_slice-steps.ensures)
    ∙ (sym (c.in_ok-found.ensures s.backlog (λ b a. true) (honest run.world) holds)
    ∙ c.in-None.is) in
    IfOk-weaker c.none_text.result (λ text. text.items ≡ none_line)
    (λ text. TellsOf hash height s report run text.items)
    (λ text h. tells_none hash height s report run cluster text.items found h) c.none_text.ensures

pub told_of-requires-after_bounds : goal.told_of-requires-after_bounds
told_of-requires-after_bounds g c κs within =
    let hash = g.H.Hasher.digest_of in
    let s : Scenario = c.args.script.now in
    let report = c.args.report.now in
    let height : ℕ = c.args.height in
    let run = c.requires.run in
    let cluster = c.is_cluster.ensures (script_rules hash s) refl in
    let holds =
    subst (λ (disks : List (List ℕ)). HoldNotes (honest run.world) disks)
    (sym c.as_slice-disks.ensures) run.disks in
    let marks = c.deref.ensures.value ∙ c.in_ok-faulty.ensures in
    let found =
    sym
    (found_is hash height s report run cluster c.in_ok-committees.committees
    c.deref.result.now c.as_slice-steps.result.now (sym c.requires.way)
    c.in_ok-committees.ensures marks c.as_slice-steps.ensures)
    ∙ (sym (c.in_ok-found.ensures s.backlog (λ b a. true) (honest run.world) holds)
    ∙ c.in-Some.is) in
    let (d, told, link) = told_yes hash height s report run cluster c.in-Some.shown found in (
      s.backlog,
      λ b a. true,
      height,
      d,
      answer_is hash height s report run cluster c.in_ok-committees.committees c.deref.result.now
          c.as_slice-steps.result.now (sym c.requires.way) c.in_ok-committees.ensures marks
          c.as_slice-steps.ensures c.in-Some.shown
          ∙ told,
    )

pub returns : goal.returns
returns g c = λ run.
    let hash = g.H.Hasher.digest_of in
    let s : Scenario = c.args.script.now in
    let report = c.args.report.now in
    let height : ℕ = c.args.height in
    let cluster = c.is_cluster.ensures (script_rules hash s) refl in
    let holds =
    subst (λ (disks : List (List ℕ)). HoldNotes (honest run.world) disks)
    (sym c.as_slice-disks.ensures) run.disks in
    let marks = c.deref.ensures.value ∙ c.in_ok-faulty.ensures in
    let found =
    sym
    (found_is hash height s report run cluster c.in_ok-committees.committees
    c.deref.result.now c.as_slice-steps.result.now (sym c.requires.way)
    c.in_ok-committees.ensures marks c.as_slice-steps.ensures)
    ∙ (sym (c.in_ok-found.ensures s.backlog (λ b a. true) (honest run.world) holds)
    ∙ c.in-Some.is) in
    let same =
    answer_is hash height s report run cluster c.in_ok-committees.committees c.deref.result.now
    c.as_slice-steps.result.now (sym c.requires.way) c.in_ok-committees.ensures marks
    c.as_slice-steps.ensures c.in-Some.shown in
    IfOk-weaker c.yes_text.result
    (λ text. text.items ≡ yes_line c.in_ok-told-in-Some.told.0 c.in_ok-told-in-Some.told.1)
    (λ text. TellsOf hash height s report run text.items)
    (λ text h. tells_some hash height s report run cluster c.in-Some.shown text.items found
    (λ d is. h
    ∙ ap (λ (told : ℕ × Digest32). yes_line told.0 told.1)
    (c.in_ok-told-in-Some.ensures s.backlog (λ b a. true) height d (same ∙ is))))
    c.yes_text.ensures
