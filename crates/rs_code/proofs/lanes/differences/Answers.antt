use Rattle.std.proofs.Common.{zero, suc, refl, arith}
use Rattle.rs_code.proofs.lanes.differences.Goals as goal

pub returns : goal.returns
returns c zero h = refl
returns c (suc zero) h = refl
returns c (suc (suc zero)) h = refl
returns c (suc (suc (suc zero))) h = refl
returns c (suc (suc (suc (suc zero)))) h = refl
returns c (suc (suc (suc (suc (suc zero))))) h = refl
returns c (suc (suc (suc (suc (suc (suc zero)))))) h = refl
returns c (suc (suc (suc (suc (suc (suc (suc zero))))))) h = refl
returns c (suc (suc (suc (suc (suc (suc (suc (suc i)))))))) h = absurd (omega (arith, h))
