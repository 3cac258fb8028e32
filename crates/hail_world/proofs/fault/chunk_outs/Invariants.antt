use Rattle.std.proofs.Common.{◌≡◌}
use Rattle.std.specs.Prelude.{filter_map}
use Rattle.cw_rules.specs.Sends.{chunk_out}
use Rattle.hail_world.proofs.fault.chunk_outs.Given as goal

-- the chunks so far
abbrev pub invariant-loop-chunk : goal.invariant-loop-chunk
invariant-loop-chunk l = l.outs ≡ filter_map (chunk_out l.member l.list l.commitment) l.yielded
