use Rattle.std.proofs.Common.{◌≡◌, drop}
use Rattle.hail_world.specs.Runs.{higher}
use Rattle.hail_world.proofs.chain.highest_in.Given as goal

-- the blocks from here on decide
abbrev pub invariant-loop-block : goal.invariant-loop-block
invariant-loop-block l = higher l.found (drop l.block-index l.handed) ≡ higher l.fn.found l.handed
