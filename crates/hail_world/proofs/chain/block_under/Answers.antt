use Rattle.std.proofs.Common.{◌≡◌, ◌∙◌, Option, map}
use Rattle.cw_types.specs.Block.{Block}
use Rattle.cw_rules.specs.Chains.{block_under}
use Rattle.hail_world.specs.Places.{notes_at}
use Rattle.hail_world.specs.Runs.{first_named}
use Rattle.hail_world.proofs.Links.{under_is}
use Rattle.hail_world.proofs.Searching.{ok_more}
use Rattle.hail_world.proofs.chain.block_under.Goals as goal

pub returns : goal.returns
returns g c = λ r w by members.
    ok_more
    (λ (b : Option Block). b
    ≡ first_named g.H.Hasher.digest_of (map notes_at c.args.places.now)
    c.args.commitment.now)
    (λ (b : Option Block). b ≡ block_under r w c.args.commitment.now) c.named.result
    (λ b e. e
    ∙ under_is g.H.Hasher.digest_of r w c.args.places.now c.args.commitment.now by members)
    c.named.ensures
