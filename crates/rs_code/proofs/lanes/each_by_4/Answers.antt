use Rattle.std.proofs.Common.{zero, suc, arith}
use Rattle.rs_code.proofs.lanes.each_by_4.Goals as goal

pub returns : goal.returns
returns c zero h = c.by_4.ensures
returns c (suc zero) h = c.by_4-2.ensures
returns c (suc (suc zero)) h = c.by_4-3.ensures
returns c (suc (suc (suc zero))) h = c.by_4-4.ensures
returns c (suc (suc (suc (suc zero)))) h = c.by_4-5.ensures
returns c (suc (suc (suc (suc (suc zero))))) h = c.by_4-6.ensures
returns c (suc (suc (suc (suc (suc (suc zero)))))) h = c.by_4-7.ensures
returns c (suc (suc (suc (suc (suc (suc (suc zero))))))) h = c.by_4-8.ensures
returns c (suc (suc (suc (suc (suc (suc (suc (suc i)))))))) h = absurd (omega (arith, h))
