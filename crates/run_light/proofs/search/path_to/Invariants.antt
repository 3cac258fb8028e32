use Rattle.std.proofs.Common.{◌≡◌, ℕ, ◌+◌, Bool}
use Rattle.std.specs.Option.{option_map_or}
use Rattle.cw_types.specs.Block.{Block}
use Rattle.cw_types.specs.Epochs.{Epochs}
use Rattle.cw_rules_coded.specs.Coded.{coded}
use Rattle.run_light.specs.Finding.{path_to}
use Rattle.run_light.proofs.Paths.{behind}
use Rattle.run_light.proofs.search.path_to.Given as goal

-- the way from here, behind the blocks so far
abbrev pub invariant-loop-next : goal.invariant-loop-next
invariant-loop-next g l =
    (epochs : Epochs) (backlog : ℕ) (accepts : Block → Block → Bool)
    → behind (coded g.H.Hasher.digest_of epochs backlog accepts) l.notes l.height l.path l.next
    ≡ path_to (coded g.H.Hasher.digest_of epochs backlog accepts) l.fn.notes l.fn.height
    l.fn.commitment

abbrev pub decreases-loop-next : goal.decreases-loop-next
decreases-loop-next g l = option_map_or (λ b. b.height + 1) l.next 0
