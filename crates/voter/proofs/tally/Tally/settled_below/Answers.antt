use Rattle.std.proofs.Common.{◌∙◌, ℕ, if◌then◌else◌, nat_lt, None, Option, option_map, ap, subst, sym}
use Rattle.std.specs.Option.{option_or}
use Rattle.cw_types.specs.Commit.{genesis_commitment}
use Rattle.cw_types.specs.declared.commitment.Commitment.{Commitment}
use Rattle.cw_rules.specs.Notes.{settled}
use Rattle.voter.specs.Facts.{HasFirstSettled}
use Rattle.voter.specs.Known.{Known}
use Rattle.voter.proofs.ParentOver.{settled_apart}
use Rattle.voter.proofs.tally.Tally.settled_below.Goals as goal

pub returns-in-Some : goal.returns-in-Some
returns-in-Some g c =
    let genesis = genesis_commitment g.H.Hasher.digest_of in
    let notes = c.args.self.now.notes in
    let has =
    subst
    (λ (k : Known). HasFirstSettled k.notes c.self.inside.index.facts.settled.by_key.entries)
    c.self.view_is c.self.invariant.facts.settling in
    ap
    (λ (o : Option (ℕ × Commitment)). option_or o
    (if nat_lt 0 c.args.top
    then option_map (λ d. (0, d)) (settled genesis notes c.args.epoch 0) else None))
    (sym c.in-Some.is ∙ c.last_below.ensures notes has)
    ∙ sym (settled_apart genesis notes c.args.epoch c.args.top)

pub returns-in-None : goal.returns-in-None
returns-in-None g c =
    let genesis = genesis_commitment g.H.Hasher.digest_of in
    let notes = c.args.self.now.notes in
    let has =
    subst
    (λ (k : Known). HasFirstSettled k.notes c.self.inside.index.facts.settled.by_key.entries)
    c.self.view_is c.self.invariant.facts.settling in
    c.root_below.ensures
    ∙ (ap
    (λ (o : Option (ℕ × Commitment)). option_or o
    (if nat_lt 0 c.args.top
    then option_map (λ d. (0, d)) (settled genesis notes c.args.epoch 0) else None))
    (sym c.in-None.is ∙ c.last_below.ensures notes has)
    ∙ sym (settled_apart genesis notes c.args.epoch c.args.top))
