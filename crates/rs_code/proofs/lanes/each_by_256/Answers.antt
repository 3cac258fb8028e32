use Rattle.std.proofs.Common.{zero, suc, arith}
use Rattle.rs_code.proofs.lanes.each_by_256.Goals as goal

pub returns : goal.returns
returns c zero h = c.by_256.ensures
returns c (suc zero) h = c.by_256-2.ensures
returns c (suc (suc zero)) h = c.by_256-3.ensures
returns c (suc (suc (suc zero))) h = c.by_256-4.ensures
returns c (suc (suc (suc (suc zero)))) h = c.by_256-5.ensures
returns c (suc (suc (suc (suc (suc zero))))) h = c.by_256-6.ensures
returns c (suc (suc (suc (suc (suc (suc zero)))))) h = c.by_256-7.ensures
returns c (suc (suc (suc (suc (suc (suc (suc zero))))))) h = c.by_256-8.ensures
returns c (suc (suc (suc (suc (suc (suc (suc (suc i)))))))) h = absurd (omega (arith, h))
