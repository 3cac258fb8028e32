use Rattle.std.proofs.Common.{◌∙◌, ap}
use Rattle.std.specs.Map.{lookup}
use Rattle.note_scans.specs.Keys.{same_key}
use Rattle.note_scans.specs.declared.key.VoteKey.{VoteKey}
use Rattle.note_scans.proofs.Keys.{found_key}
use Rattle.voter.proofs.signer_sets.SignerSets.get.Goals as goal

pub returns : goal.returns
returns c =
    let es = c.args.self.now.by_vote.entries in
    c.get.ensures.value
    ∙ (found_key es c.new.result
    ∙ ap (λ (q : VoteKey). lookup (same_key q) es) c.new.ensures)
