use Rattle.std.proofs.Common.{◌≡◌, ◌∙◌, Option, ap}
use Rattle.cw_types.specs.Block.{Block}
use Rattle.cw_types.specs.declared.block.Context.{Context}
use Rattle.cw_rules.specs.Chains.{block_under}
use Rattle.hail_world.specs.Runs.{under}
use Rattle.hail_world.proofs.Links.{under_low}
use Rattle.hail_world.proofs.Searching.{ok_more}
use Rattle.hail_world.proofs.chain.parent.Goals as goal

pub returns-clause-below : goal.returns-clause-below
returns-clause-below g c = λ r w by members.
    ok_more (λ (b : Option Block). b ≡ block_under r w c.context.result.now.parent)
    (λ (b : Option Block). b ≡ under r w c.args.left c.args.block.now) c.block_under.result
    (λ b e. e ∙ ap (λ (x : Context). block_under r w x.parent) c.context.ensures
    ∙ under_low r w c.args.left c.args.block.now c.if-left-eq0.false)
    (c.block_under.ensures r w by members)
