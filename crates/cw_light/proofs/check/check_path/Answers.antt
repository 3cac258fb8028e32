use Rattle.std.proofs.Common.{◌∙◌, sym}
use Rattle.cw_rules.specs.Rules.{Rules}
use Rattle.cw_rules_coded.specs.Coded.{coded}
use Rattle.cw_light.proofs.Walks.{told_broken, told_yes}
use Rattle.cw_light.proofs.check.check_path.Goals as goal

pub returns-in-Some-2 : goal.returns-in-Some-2
returns-in-Some-2 g c = λ backlog accepts.
    let r : Rules = coded g.H.Hasher.digest_of c.args.committees.now backlog accepts in
    told_broken r c.args.commitment.now c.args.path.now c.in-Some.last.now c.in-Some-2.place
    (sym c.in-Some.ensures.value) (sym (c.in_ok-place.ensures backlog accepts) ∙ c.in-Some-2.is)

pub returns-in_ok-digest-in-None : goal.returns-in_ok-digest-in-None
returns-in_ok-digest-in-None g c = λ backlog accepts.
    let r : Rules = coded g.H.Hasher.digest_of c.args.committees.now backlog accepts in
    told_yes r c.args.commitment.now c.args.path.now c.in-Some.last.now c.height.result
    c.in_ok-digest-in-None.field-0 (sym c.in-Some.ensures.value)
    (sym (c.in_ok-place.ensures backlog accepts) ∙ c.in-None.is) c.height.ensures.value
    c.in_ok-digest-in-None.ensures
