use Rattle.std.proofs.Common.{◌≡◌, ◌∙◌, IfOk, false, subst, sym, true}
use Rattle.cw_rules.specs.Rules.{Rules}
use Rattle.cw_rules_coded.specs.Coded.{coded}
use Rattle.cw_light.proofs.Walks.{answered}
use Rattle.cw_light.proofs.check.light_check.Goals as goal

pub returns-then-not-is_valid : goal.returns-then-not-is_valid
returns-then-not-is_valid g c = λ backlog accepts.
    let r : Rules = coded g.H.Hasher.digest_of c.args.committees.now backlog accepts in
    sym
    (answered r (g.V.Verifier.signs c.args.verifier.now) c.args.cert.now c.args.path.now
    c.in-Some.proposal false (sym c.finalized.ensures ∙ c.in-Some.is)
    (sym (c.is_valid.ensures g.H.Hasher.digest_of backlog accepts) ∙ c.if-not-is_valid.true))

pub returns : goal.returns
returns g c = λ backlog accepts.
    let r : Rules = coded g.H.Hasher.digest_of c.args.committees.now backlog accepts in
    subst (λ a. IfOk c.check_path.result (λ told. told ≡ a))
    (sym
    (answered r (g.V.Verifier.signs c.args.verifier.now) c.args.cert.now c.args.path.now
    c.in-Some.proposal true (sym c.finalized.ensures ∙ c.in-Some.is)
    (sym (c.is_valid.ensures g.H.Hasher.digest_of backlog accepts) ∙ c.if-not-is_valid.false)))
    (c.check_path.ensures backlog accepts)
