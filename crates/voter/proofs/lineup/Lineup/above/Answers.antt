use Rattle.std.proofs.Common.{◌∙◌, ℕ, Option, ap, sym}
use Rattle.voter.specs.Lineup.{place_of}
use Rattle.note_scans.proofs.Keys.{found_key}
use Rattle.voter.proofs.lineup.Lineup.above.Goals as goal

pub returns-in-Some : goal.returns-in-Some
returns-in-Some g c =
    ap (λ (o : Option ℕ). place_of o)
    (sym (c.in-Some.ensures.value ∙ found_key c.args.self.now.places.entries c.args.name.now))

pub returns-in-None : goal.returns-in-None
returns-in-None g c =
    ap (λ (o : Option ℕ). place_of o)
    (sym (c.in-None.ensures.value ∙ found_key c.args.self.now.places.entries c.args.name.now))
