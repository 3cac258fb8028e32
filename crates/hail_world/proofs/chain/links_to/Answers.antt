use Rattle.std.specs.Option.{option_map_or}
use Rattle.std.proofs.Common.{[]}
use Rattle.cw_rules.specs.Chains.{chain_to}
use Rattle.hail_world.proofs.Links.{link_on}
use Rattle.hail_world.proofs.chain.links_to.Goals as goal

pub loop-next-preserved : goal.loop-next-preserved
loop-next-preserved g c = λ r w by members.
    link_on r w c.loop-next.left c.saturating_sub-left.result c.in-Some.block c.loop-next.next
    c.in_ok-next.next c.loop-next.down.items c.push.new.self.items
    (option_map_or (λ b. chain_to r w b) c.args.top []) c.saturating_sub-left.ensures
    c.in-Some.is (c.in_ok-next.ensures.below r w by members) c.in_ok-push.ensures.items
    (c.loop-next.invariant r w by members)
