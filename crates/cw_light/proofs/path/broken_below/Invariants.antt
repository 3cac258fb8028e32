use Rattle.std.proofs.Common.{◌≡◌, ◌∷◌, ℕ, Bool, List, Some, ◌-◌, ◌≤◌, drop, length, slice_get}
use Rattle.cw_rules_coded.specs.Coded.{coded}
use Rattle.cw_types.specs.Block.{Block}
use Rattle.cw_light.specs.Checking.{broken_below}
use Rattle.cw_light.proofs.path.broken_below.Given as goal

-- the places from here on decide
abbrev pub invariant-loop-place : goal.invariant-loop-place
invariant-loop-place g l =
    (backlog : ℕ) (accepts : Block → Block → Bool) (first : Block) (below : List Block)
    → l.path ≡ first ∷ below
    → (1 ≤ l.place) × (l.place ≤ length l.path)
    × ((above : Block) → slice_get l.path (l.place - 1) ≡ Some above
    → broken_below (coded g.H.Hasher.digest_of l.committees backlog accepts) 1 first below
    ≡ broken_below (coded g.H.Hasher.digest_of l.committees backlog accepts) l.place above
    (drop l.place l.path))
