use Rattle.std.proofs.Common.{◌∙◌, ap}
use Rattle.std.specs.Map.{lookup}
use Rattle.note_scans.specs.Keys.{same_key}
use Rattle.note_scans.specs.declared.key.VoteKey.{VoteKey}
use Rattle.voter.proofs.FirstCerts.{first_told}
use Rattle.note_scans.proofs.Keys.{found_key}
use Rattle.voter.proofs.cert_places.Certs.place.Goals as goal

pub returns : goal.returns
returns c = λ ballots has.
    let es = c.args.self.now.first.entries in
    c.copied.ensures
    ∙ (c.get.ensures.value
    ∙ (found_key es c.new.result
    ∙ (ap (λ (q : VoteKey). lookup (same_key q) es) c.new.ensures
    ∙ first_told ballots c.args.vote.now es has)))
