use Rattle.std.proofs.Common.{◌≡◌, ◌<◌, ℕ, false, length}
use Rattle.cw_base.specs.Config.{same_counts}
use Rattle.cw_types.specs.Numbers.{config_for}
use Rattle.cw_types.specs.Epochs.{list_of}
use Rattle.shards.proofs.configs.has_config.Given as goal

-- no epoch so far has that config
abbrev pub invariant-loop-epoch : goal.invariant-loop-epoch
invariant-loop-epoch l =
    (e : ℕ) → e < l.epoch
    → same_counts l.config (config_for (length (list_of l.committees.lists e))) ≡ false
