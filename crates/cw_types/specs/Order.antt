-- The order of commitments: field by field.
use Rattle.std.specs.Cmp.Lexicographic.{slice_cmp}
use Rattle.std.specs.Ordering.{nat_cmp, on, then_cmp}
use Rattle.std.specs.declared.cmp.Ordering.{Ordering}
use Rattle.cw_types.specs.declared.commitment.Commitment.{Commitment}

-- the three digests byte by byte, then the numbers of the config
abbrev pub commitment_cmp : Commitment → Commitment → Ordering
commitment_cmp =
    then_cmp (on (λ c. c.block.0) (slice_cmp nat_cmp))
    (then_cmp (on (λ c. c.root.0) (slice_cmp nat_cmp))
    (then_cmp (on (λ c. c.context.0) (slice_cmp nat_cmp))
    (then_cmp (on (λ c. c.config.minimum) nat_cmp) (on (λ c. c.config.extra) nat_cmp))))
