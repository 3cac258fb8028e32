use Rattle.std.proofs.Common.{arith}
use Rattle.cw_base.proofs.Varints.{last_small, more_small, more_fits}
use Rattle.cw_base.proofs.reader.+varint_of.Goals as goal
use Rattle.cw_base.proofs.reader.+varint_of.Goals.{else-more-eq0-via-then-more-eq0+else-byte-gt15, else-more-eq0-via-else-more-eq0}

pub returns-else-not-first-clause-small : goal.returns-else-not-first-clause-small
returns-else-not-first-clause-small t c =
    last_small c.args.more c.from-byte.result c.requires c.if-byte-lt128.true (λ e.
    elim c.else-more-eq0.branch [
      | else-more-eq0-via-then-more-eq0+else-byte-gt15 w ↦ omega (arith, w.if-byte-gt15.false)
      | else-more-eq0-via-else-more-eq0 w ↦ absurd (w.if-more-eq0.false e)
    ])

pub overflow_mul-result : goal.overflow_mul-result
overflow_mul-result t c =
    let fits = more_fits c.args.more c.in-Ok.high c.requires
    (elim c.else-more-eq0.branch [
      | else-more-eq0-via-then-more-eq0+else-byte-gt15 w ↦ absurd
          (omega (arith, w.if-byte-gt15.false))
      | else-more-eq0-via-else-more-eq0 w ↦ omega (arith, w.if-more-eq0.false)
    ]) c.in-Ok.ensures.small in
    omega (arith, fits)

pub overflow_add-result : goal.overflow_add-result
overflow_add-result t c =
    let fits = more_fits c.args.more c.in-Ok.high c.requires
    (elim c.else-more-eq0.branch [
      | else-more-eq0-via-then-more-eq0+else-byte-gt15 w ↦ absurd
          (omega (arith, w.if-byte-gt15.false))
      | else-more-eq0-via-else-more-eq0 w ↦ omega (arith, w.if-more-eq0.false)
    ]) c.in-Ok.ensures.small in
    omega (arith, fits)

pub returns-in-Ok-clause-small : goal.returns-in-Ok-clause-small
returns-in-Ok-clause-small t c =
    more_small c.args.more c.from-byte.result c.in-Ok.high c.requires
    (elim c.else-more-eq0.branch [
      | else-more-eq0-via-then-more-eq0+else-byte-gt15 w ↦ absurd
          (omega (arith, w.if-byte-gt15.false))
      | else-more-eq0-via-else-more-eq0 w ↦ omega (arith, w.if-more-eq0.false)
    ]) (omega arith) c.in-Ok.ensures.small
