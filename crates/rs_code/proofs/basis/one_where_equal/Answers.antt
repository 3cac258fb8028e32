use Rattle.std.proofs.Common.{zero, suc, arith}
use Rattle.rs_code.proofs.basis.one_where_equal.Goals as goal

pub returns-clause-here : goal.returns-clause-here
returns-clause-here c zero h w = c.one_if_equal.ensures.here w
returns-clause-here c (suc zero) h w = c.one_if_equal-2.ensures.here w
returns-clause-here c (suc (suc zero)) h w = c.one_if_equal-3.ensures.here w
returns-clause-here c (suc (suc (suc zero))) h w = c.one_if_equal-4.ensures.here w
returns-clause-here c (suc (suc (suc (suc zero)))) h w = c.one_if_equal-5.ensures.here w
returns-clause-here c (suc (suc (suc (suc (suc zero))))) h w = c.one_if_equal-6.ensures.here w
returns-clause-here c (suc (suc (suc (suc (suc (suc zero)))))) h w = c.one_if_equal-7.ensures.here w
returns-clause-here c (suc (suc (suc (suc (suc (suc (suc zero))))))) h w =
    c.one_if_equal-8.ensures.here w
returns-clause-here c (suc (suc (suc (suc (suc (suc (suc (suc i)))))))) h w =
    absurd (omega (arith, h))

pub returns-clause-away : goal.returns-clause-away
returns-clause-away c zero h w = c.one_if_equal.ensures.away w
returns-clause-away c (suc zero) h w = c.one_if_equal-2.ensures.away w
returns-clause-away c (suc (suc zero)) h w = c.one_if_equal-3.ensures.away w
returns-clause-away c (suc (suc (suc zero))) h w = c.one_if_equal-4.ensures.away w
returns-clause-away c (suc (suc (suc (suc zero)))) h w = c.one_if_equal-5.ensures.away w
returns-clause-away c (suc (suc (suc (suc (suc zero))))) h w = c.one_if_equal-6.ensures.away w
returns-clause-away c (suc (suc (suc (suc (suc (suc zero)))))) h w = c.one_if_equal-7.ensures.away w
returns-clause-away c (suc (suc (suc (suc (suc (suc (suc zero))))))) h w =
    c.one_if_equal-8.ensures.away w
returns-clause-away c (suc (suc (suc (suc (suc (suc (suc (suc i)))))))) h w =
    absurd (omega (arith, h))
