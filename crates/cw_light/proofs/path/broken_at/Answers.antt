use Rattle.std.proofs.Common.{◌≡◌, ℕ, Option, ◌∙◌, sym}
use Rattle.std.proofs.lemmas.Result.{IfOk-weaker}
use Rattle.cw_rules.specs.Rules.{Rules}
use Rattle.cw_rules_coded.specs.Coded.{coded}
use Rattle.cw_types.specs.Block.{Block}
use Rattle.cw_light.specs.Checking.{broken_at, broken_below}
use Rattle.cw_light.proofs.Walks.{first_breaks, first_goes, head_of}
use Rattle.cw_light.proofs.path.broken_at.Goals as goal

pub returns-then-not-branch : goal.returns-then-not-branch
returns-then-not-branch g c = λ backlog accepts.
    let r : Rules = coded g.H.Hasher.digest_of c.args.committees.now backlog accepts in
    sym
    (first_breaks r c.args.commitment.now c.args.path.now c.in-Some.first.now
    (sym c.in-Some.ensures.value)
    (sym (c.in_ok-is_named.ensures backlog accepts) ∙ c.if-not-branch.true))

pub returns : goal.returns
returns g c = λ backlog accepts.
    let r : Rules = coded g.H.Hasher.digest_of c.args.committees.now backlog accepts in
    let b : Block = c.in-Some.first.now in
    let (below, e) = head_of c.args.path.now b (sym c.in-Some.ensures.value) in
    IfOk-weaker c.broken_below.result (λ (place : Option ℕ). place ≡ broken_below r 1 b below)
    (λ (place : Option ℕ). place ≡ broken_at r c.args.commitment.now c.args.path.now)
    (λ place h. h
    ∙ sym
    (first_goes r c.args.commitment.now c.args.path.now b below e
    (sym (c.in_ok-is_named.ensures backlog accepts) ∙ c.if-not-branch.false)))
    (c.broken_below.ensures backlog accepts b below e)
