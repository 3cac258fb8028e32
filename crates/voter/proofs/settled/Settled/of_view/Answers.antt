use Rattle.std.proofs.Common.{◌∙◌, ap}
use Rattle.std.specs.Map.{lookup}
use Rattle.note_scans.specs.Keys.{in_view, same_key}
use Rattle.note_scans.specs.declared.key.VoteKey.{VoteKey}
use Rattle.note_scans.proofs.Keys.{found_key}
use Rattle.voter.proofs.Settling.{settled_view}
use Rattle.voter.proofs.settled.Settled.of_view.Goals as goal

pub returns : goal.returns
returns c = λ notes has.
    let es = c.args.self.now.by_key.entries in
    c.copied.ensures
    ∙ (c.get.ensures.value
    ∙ (found_key es c.in_view.result
    ∙ (ap (λ (q : VoteKey). lookup (same_key q) es) c.in_view.ensures
    ∙ (has (in_view 6 c.args.epoch c.args.view)
    ∙ settled_view c.args.epoch c.args.view notes))))
