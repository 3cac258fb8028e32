use Rattle.std.proofs.Common.{◌≡◌, ◌++◌, ◌∷◌, List, take}
use Rattle.std.specs.List.{AllByRecursion}
use Rattle.cw_types.specs.Block.{Block}
use Rattle.cw_types.specs.Encoding.{block_bytes}
use Rattle.cw_rules.specs.Reached.{IsNamed}
use Rattle.cw_rules.specs.Rules.{Rules, genesis}
use Rattle.hail_world.specs.Known.{AreKnown, blocks_in}
use Rattle.hail_world.proofs.Colliding.{AreTaken}
use Rattle.hail_world.proofs.clash.clash_from.Given as goal

-- the notes so far were taken without a clash
abbrev pub invariant-loop-index : goal.invariant-loop-index
invariant-loop-index l =
    (r : Rules) (low high : List Block) → r.block_bytes ≡ block_bytes
    → AllByRecursion (IsNamed r) l.own
    → AreKnown r l.fn.known (genesis r ∷ low ++ blocks_in (take l.old l.own) ++ high)
    → AreTaken r low high l.own l.old l.index l.known
