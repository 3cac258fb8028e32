use Rattle.std.proofs.Common.{◌≡◌, ◌∙◌, ap}
use Rattle.std.proofs.lemmas.Result.{IfOk-weaker}
use Rattle.cw_types.specs.Block.{Block}
use Rattle.cw_types.specs.Commit as types
use Rattle.cw_types.specs.Epochs.{size}
use Rattle.cw_types.specs.declared.commitment.Commitment.{Commitment}
use Rattle.cw_rules.specs.Rules as rule
use Rattle.cw_rules_coded.specs.Coded.{coded}
use Rattle.cw_light.proofs.path.commitment_of.Goals as goal

pub returns : goal.returns
returns g c = λ backlog accepts.
    let b : Block = c.args.block.now in
    let hash = g.H.Hasher.digest_of in
    IfOk-weaker c.commit.result (λ (own : Commitment). own ≡ types.commit hash c.size-n.result b)
    (λ (own : Commitment). own
    ≡ rule.commit (coded hash c.args.committees.now backlog accepts) b)
    (λ own e. e
    ∙ (ap (λ n. types.commit hash n b)
    (c.size-n.ensures.value
    ∙ ap (λ x. size c.args.committees.now x.epoch) c.context.ensures)
    ∙ c.commits_by_rules.ensures.commit hash c.args.committees.now backlog accepts b))
    c.commit.ensures
