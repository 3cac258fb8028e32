use Rattle.std.proofs.Common.{rules, ◌≡◌, true, IfOk, ap, subst, ◌∙◌}
use Rattle.cw_types.specs.Commit as types
use Rattle.cw_types.specs.Epochs.{size}
use Rattle.cw_rules.specs.Rules as rules_of
use Rattle.cw_rules_coded.specs.Coded.{coded}
use Rattle.marshal.proofs.naming.commitment_of.Goals as goal

pub returns : goal.returns
returns g c =
    let hash = g.H.Hasher.digest_of in
    let members : c.size-members.result
    ≡ size c.args.committees.now c.args.block.now.context.epoch =
    search rules in
    let same : types.commit hash c.size-members.result c.args.block.now
    ≡ rules_of.commit (coded hash c.args.committees.now 0 (λ b a. true)) c.args.block.now =
    ap (λ n. types.commit hash n c.args.block.now) members
    ∙ c.commits_by_rules.ensures.commit hash c.args.committees.now 0 (λ b a. true)
    c.args.block.now in
    subst (λ x. IfOk c.commit.result (λ y. y ≡ x)) same c.commit.ensures
