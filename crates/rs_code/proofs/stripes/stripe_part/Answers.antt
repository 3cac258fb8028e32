use Rattle.std.proofs.Common.{◌+◌, arith}
use Rattle.rs_code.proofs.StripeCuts.{start_rises, start_within}
use Rattle.rs_code.proofs.stripes.stripe_part.Goals as goal

pub overflow_sub-result : goal.overflow_sub-result
overflow_sub-result c =
    omega (
      arith,
      c.stripe-first.ensures.first,
      c.stripe-first.ensures.last,
      start_rises c.args.width c.args.count c.args.index c.requires,
    )

pub returns-clause-within : goal.returns-clause-within
returns-clause-within c =
    omega (
      arith,
      c.stripe-first.ensures.first,
      c.stripe-first.ensures.last,
      start_rises c.args.width c.args.count c.args.index c.requires,
      start_within c.args.width c.args.count (c.args.index + 1) (omega arith) (omega arith),
    )
