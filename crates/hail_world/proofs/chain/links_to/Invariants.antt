use Rattle.std.proofs.Common.{◌+◌, ◌++◌, ◌≡◌, [], reverse}
use Rattle.std.specs.Option.{option_map_or}
use Rattle.cw_rules.specs.Chains.{chain_to, links_to}
use Rattle.cw_rules.specs.Rules.{Rules}
use Rattle.cw_rules.specs.World.{World}
use Rattle.hail_world.specs.Places.{SitAs}
use Rattle.hail_world.specs.Runs.{GoesBy}
use Rattle.hail_world.proofs.chain.links_to.Given as goal

-- the blocks so far stand on those that the next leads to
abbrev pub invariant-loop-next : goal.invariant-loop-next
invariant-loop-next g l =
    (r : Rules) (w : World) → GoesBy g.H.Hasher.digest_of r → SitAs l.places w.members
    → option_map_or (links_to r w l.left) l.next [] ++ reverse l.down.items
    ≡ option_map_or (λ b. chain_to r w b) l.fn.top []

abbrev pub decreases-loop-next : goal.decreases-loop-next
decreases-loop-next g l = l.left + option_map_or (λ _. 1) l.next 0
