use Rattle.std.proofs.Common.{rules, ◌≤◌, IsTrue, inl, inr, arith}
use Rattle.cw_coding.proofs.DecodingLaws.{misfit_refuses, wide_refuses, few_refuses, decodable_is}
use Rattle.cw_coding.proofs.gathering.decodable.Goals as goal

pub returns-then-total-gt65535 : goal.returns-then-total-gt65535
returns-then-total-gt65535 g c =
    let total = c.total_shards-total.ensures in
    inr (total, omega (arith, total, c.if-total-gt65535.true))

pub returns-in_default : goal.returns-in_default
returns-in_default g c =
    inr (
      omega (arith, c.total_shards-total.ensures, c.if-total-gt65535.false),
      inl c.in_default.ensures,
    )

pub returns-then-not-is_width : goal.returns-then-not-is_width
returns-then-not-is_width g c =
    let small : c.total_shards-total.result ≤ 65535 = omega (arith, c.if-total-gt65535.false) in
    inr
    (wide_refuses c.args.config.now c.args.root.now c.args.shards.now c.total_shards-total.result
    c.in-Some.width c.total_shards-total.ensures c.in-Some.ensures.1 small c.in-Some.ensures.0
    (λ wide. let yes = c.is_width.ensures.1 wide in search rules))

pub returns-in-Err : goal.returns-in-Err
returns-in-Err g c =
    let small : c.total_shards-total.result ≤ 65535 = omega (arith, c.if-total-gt65535.false) in
    let yes : IsTrue c.is_width.result = search rules in
    misfit_refuses c.args.config.now c.args.root.now c.args.shards.now c.total_shards-total.result
    c.in-Some.width c.in-Err.error c.total_shards-total.ensures c.in-Some.ensures.1 small
    (c.is_width.ensures.0 yes) c.in-Err.ensures

pub returns-then-shards-from : goal.returns-then-shards-from
returns-then-shards-from g c =
    let small : c.total_shards-total.result ≤ 65535 = omega (arith, c.if-total-gt65535.false) in
    let yes : IsTrue c.is_width.result = search rules in
    inr
    (few_refuses c.args.config.now c.args.root.now c.args.shards.now c.total_shards-total.result
    c.in-Some.width c.total_shards-total.ensures c.in-Some.ensures.1 small c.in-Some.ensures.0
    (c.is_width.ensures.0 yes) c.in_default-fitting.ensures
    (omega (arith, c.minimum.ensures.value, c.from.ensures, c.if-shards-from.true)))

pub returns : goal.returns
returns g c =
    let small : c.total_shards-total.result ≤ 65535 = omega (arith, c.if-total-gt65535.false) in
    let yes : IsTrue c.is_width.result = search rules in (
      c.in-Some.ensures.1,
      decodable_is c.args.config.now c.args.root.now c.args.shards.now c.total_shards-total.result
          c.in-Some.width c.total_shards-total.ensures c.in-Some.ensures.1 small
          c.in-Some.ensures.0 (c.is_width.ensures.0 yes) c.in_default-fitting.ensures
          (omega (arith, c.minimum.ensures.value, c.from.ensures, c.if-shards-from.false)),
    )
