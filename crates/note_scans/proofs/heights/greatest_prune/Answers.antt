use Rattle.std.proofs.Common.{ap, ◌∙◌, unwrap_or}
use Rattle.std.specs.List.{filter_map}
use Rattle.cw_rules.specs.Held.{pruned_height}
use Rattle.note_scans.proofs.Folds.{greatest_or}
use Rattle.note_scans.proofs.heights.greatest_prune.Goals as goal

pub returns : goal.returns
returns c =
    c.unwrap_or.ensures
    ∙ (ap (λ o. unwrap_or o 0) c.prune_of.ensures
    ∙ greatest_or (filter_map pruned_height c.args.notes.now))
