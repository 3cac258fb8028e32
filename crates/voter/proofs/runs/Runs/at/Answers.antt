use Rattle.std.proofs.Common.{◌∙◌, Option, ap, unwrap_or}
use Rattle.std.specs.Map.{lookup}
use Rattle.note_scans.specs.Keys.{same_key}
use Rattle.note_scans.specs.declared.key.VoteKey.{VoteKey}
use Rattle.note_scans.proofs.Keys.{found_key}
use Rattle.voter.specs.declared.runs.Run.{Run}
use Rattle.voter.proofs.Running.{no_run}
use Rattle.voter.proofs.runs.Runs.at.Goals as goal

pub returns-in-Some : goal.returns-in-Some
returns-in-Some c =
    let es = c.args.self.now.by_end.entries in
    ap (λ (o : Option Run). unwrap_or o no_run)
    (c.in-Some.ensures.value
    ∙ (found_key es c.end_key.result
    ∙ ap (λ (q : VoteKey). lookup (same_key q) es) c.end_key.ensures))

pub returns-in-None : goal.returns-in-None
returns-in-None c =
    let es = c.args.self.now.by_end.entries in
    ap (λ (o : Option Run). unwrap_or o no_run)
    (c.in-None.ensures.value
    ∙ (found_key es c.end_key.result
    ∙ ap (λ (q : VoteKey). lookup (same_key q) es) c.end_key.ensures))
