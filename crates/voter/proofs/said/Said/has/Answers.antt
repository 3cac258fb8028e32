use Rattle.std.proofs.Common.{◌∙◌, Bool, false, Option, ap, unwrap_or}
use Rattle.note_scans.proofs.Keys.{found_key}
use Rattle.voter.proofs.said.Said.has.Goals as goal

pub returns-in-Some : goal.returns-in-Some
returns-in-Some c =
    ap (λ (o : Option Bool). unwrap_or o false)
    (c.in-Some.ensures.value ∙ found_key c.args.self.now.by_key.entries c.args.key.now)

pub returns-in-None : goal.returns-in-None
returns-in-None c =
    ap (λ (o : Option Bool). unwrap_or o false)
    (c.in-None.ensures.value ∙ found_key c.args.self.now.by_key.entries c.args.key.now)
