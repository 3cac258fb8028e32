use Rattle.std.proofs.Common.{◌∙◌, ap}
use Rattle.std.specs.Map.{lookup}
use Rattle.note_scans.specs.Keys.{same_key}
use Rattle.note_scans.specs.declared.key.VoteKey.{VoteKey}
use Rattle.voter.specs.Lineup.{place_of}
use Rattle.voter.proofs.Lineups.{named_by_place}
use Rattle.voter.proofs.lineup.Lineup.has.Goals as goal

pub returns : goal.returns
returns g c = λ key same laws passes named x is_named is.
    named_by_place same_key key same laws passes named c.args.self.now.places.entries
    c.args.self.now.count c.args.self.now.waiting.items x c.above.result is
    (ap (λ (k : VoteKey). place_of (lookup (same_key k) c.args.self.now.places.entries)) is_named
    ∙ c.above.ensures)
