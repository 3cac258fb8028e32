use Rattle.std.proofs.Common.{zero, suc, arith}
use Rattle.rs_code.proofs.lanes.each_by_16.Goals as goal

pub returns : goal.returns
returns c zero h = c.by_16.ensures
returns c (suc zero) h = c.by_16-2.ensures
returns c (suc (suc zero)) h = c.by_16-3.ensures
returns c (suc (suc (suc zero))) h = c.by_16-4.ensures
returns c (suc (suc (suc (suc zero)))) h = c.by_16-5.ensures
returns c (suc (suc (suc (suc (suc zero))))) h = c.by_16-6.ensures
returns c (suc (suc (suc (suc (suc (suc zero)))))) h = c.by_16-7.ensures
returns c (suc (suc (suc (suc (suc (suc (suc zero))))))) h = c.by_16-8.ensures
returns c (suc (suc (suc (suc (suc (suc (suc (suc i)))))))) h = absurd (omega (arith, h))
