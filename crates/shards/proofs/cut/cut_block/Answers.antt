use Rattle.std.proofs.Common.{◌≡◌, ℕ, ◌∙◌, ap, true}
use Rattle.cw_types.specs.Commit.{block_chunks, commit}
use Rattle.cw_types.specs.Epochs.{size}
use Rattle.shards.proofs.cut.cut_block.Goals as goal

pub returns-clause-commitment : goal.returns-clause-commitment
returns-clause-commitment g c =
    let hash = g.H.Hasher.digest_of in
    let n : c.size-n.result ≡ size c.args.committees.now c.args.block.now.context.epoch =
    c.size-n.ensures.value ∙ ap (λ x. size c.args.committees.now x.epoch) c.context.ensures in
    c.in_ok-cut.ensures.commitment
    ∙ (ap (λ (m : ℕ). commit hash m c.args.block.now) n
    ∙ c.commits_by_rules.ensures.commit hash c.args.committees.now 0 (λ b a. true) c.args.block.now)

pub returns-clause-chunks : goal.returns-clause-chunks
returns-clause-chunks g c =
    let hash = g.H.Hasher.digest_of in
    let n : c.size-n.result ≡ size c.args.committees.now c.args.block.now.context.epoch =
    c.size-n.ensures.value ∙ ap (λ x. size c.args.committees.now x.epoch) c.context.ensures in
    c.in_ok-cut.ensures.chunks
    ∙ (ap (λ (m : ℕ). block_chunks hash m c.args.block.now) n
    ∙ c.commits_by_rules.ensures.chunks hash c.args.committees.now 0 (λ b a. true) c.args.block.now)
