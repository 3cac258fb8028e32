use Rattle.std.proofs.Common.{◌≡◌, drop, map}
use Rattle.std.specs.Prelude.{flat_map}
use Rattle.cw_rules.specs.Accepted.{first_some}
use Rattle.cw_rules.specs.Held.{noted_block_of}
use Rattle.hail_world.specs.Places.{notes_at}
use Rattle.hail_world.proofs.chain.noted_in.Given as goal

-- the places from here on decide
abbrev pub invariant-loop-place : goal.invariant-loop-place
invariant-loop-place g l =
    first_some (noted_block_of l.commitment)
    (flat_map (λ notes. notes) (drop l.place-index (map notes_at l.places)))
    ≡ first_some (noted_block_of l.commitment) (flat_map (λ notes. notes) (map notes_at l.places))
