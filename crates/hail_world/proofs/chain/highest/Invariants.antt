use Rattle.std.proofs.Common.{◌≡◌, drop}
use Rattle.std.specs.Prelude.{flat_map}
use Rattle.hail_world.specs.Runs.{higher}
use Rattle.hail_world.proofs.chain.highest.Given as goal

-- the entries from here on decide
abbrev pub invariant-loop-entry : goal.invariant-loop-entry
invariant-loop-entry l =
    higher l.found (flat_map (λ e. e.handed) (drop l.entry-index l.entries))
    ≡ higher l.fn.found (flat_map (λ e. e.handed) l.entries)
