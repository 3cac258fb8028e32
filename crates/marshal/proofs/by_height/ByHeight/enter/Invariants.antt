use Rattle.std.proofs.Common.{◌≡◌, ◌+◌, option_map, true}
use Rattle.std.specs.Option.{option_map_or}
use Rattle.marshal.specs.Bare.{bare}
use Rattle.marshal.proofs.Entering.{Entering}
use Rattle.marshal.proofs.by_height.ByHeight.enter.Given as goal

-- what all of the walk reaches stands, or is reached by what is left of it
abbrev pub invariant-loop-next : goal.invariant-loop-next
invariant-loop-next g l =
    (l.self.known ≡ true → l.fn.self.known ≡ true)
    × Entering (bare g.H.Hasher.digest_of) l.notes l.fn.commitment l.fn.block
    l.fn.self.at.entries l.below (option_map (λ b. b.now) l.next) l.self.at.entries

abbrev pub decreases-loop-next : goal.decreases-loop-next
decreases-loop-next g l = option_map_or (λ b. b.now.height + 1) l.next 0
