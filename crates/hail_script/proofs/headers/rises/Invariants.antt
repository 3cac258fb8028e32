use Rattle.std.proofs.Common.{◌≡◌, ◌+◌, drop}
use Rattle.std.specs.Option.{option_map_or}
use Rattle.cw_types.specs.Epochs.{rises_from}
use Rattle.hail_script.proofs.headers.rises.Given as goal

-- the numbers from here on decide
abbrev pub invariant-loop-number : goal.invariant-loop-number
invariant-loop-number l =
    rises_from (option_map_or (λ n. n + 1) l.last 0) (drop l.number-index l.list)
    ≡ rises_from 0 l.list
