use Rattle.std.proofs.Common.{zero, suc, arith}
use Rattle.rs_code.proofs.basis.inverses_of.Goals as goal

pub returns : goal.returns
returns c zero h w = c.inverse_of.ensures w
returns c (suc zero) h w = c.inverse_of-2.ensures w
returns c (suc (suc zero)) h w = c.inverse_of-3.ensures w
returns c (suc (suc (suc zero))) h w = c.inverse_of-4.ensures w
returns c (suc (suc (suc (suc zero)))) h w = c.inverse_of-5.ensures w
returns c (suc (suc (suc (suc (suc zero))))) h w = c.inverse_of-6.ensures w
returns c (suc (suc (suc (suc (suc (suc zero)))))) h w = c.inverse_of-7.ensures w
returns c (suc (suc (suc (suc (suc (suc (suc zero))))))) h w = c.inverse_of-8.ensures w
returns c (suc (suc (suc (suc (suc (suc (suc (suc i)))))))) h w = absurd (omega (arith, h))
