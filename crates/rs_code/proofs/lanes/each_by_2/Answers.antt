use Rattle.std.proofs.Common.{zero, suc, arith}
use Rattle.rs_code.proofs.lanes.each_by_2.Goals as goal

pub returns : goal.returns
returns c zero h = c.by_2.ensures
returns c (suc zero) h = c.by_2-2.ensures
returns c (suc (suc zero)) h = c.by_2-3.ensures
returns c (suc (suc (suc zero))) h = c.by_2-4.ensures
returns c (suc (suc (suc (suc zero)))) h = c.by_2-5.ensures
returns c (suc (suc (suc (suc (suc zero))))) h = c.by_2-6.ensures
returns c (suc (suc (suc (suc (suc (suc zero)))))) h = c.by_2-7.ensures
returns c (suc (suc (suc (suc (suc (suc (suc zero))))))) h = c.by_2-8.ensures
returns c (suc (suc (suc (suc (suc (suc (suc (suc i)))))))) h = absurd (omega (arith, h))
