use Rattle.std.proofs.Common.{zero, suc, arith}
use Rattle.rs_code.proofs.basis.inverses.Goals as goal

pub returns : goal.returns
returns c zero h w = c.inverse_or_zero.ensures w
returns c (suc zero) h w = c.inverse_or_zero-2.ensures w
returns c (suc (suc zero)) h w = c.inverse_or_zero-3.ensures w
returns c (suc (suc (suc zero))) h w = c.inverse_or_zero-4.ensures w
returns c (suc (suc (suc (suc zero)))) h w = c.inverse_or_zero-5.ensures w
returns c (suc (suc (suc (suc (suc zero))))) h w = c.inverse_or_zero-6.ensures w
returns c (suc (suc (suc (suc (suc (suc zero)))))) h w = c.inverse_or_zero-7.ensures w
returns c (suc (suc (suc (suc (suc (suc (suc zero))))))) h w = c.inverse_or_zero-8.ensures w
returns c (suc (suc (suc (suc (suc (suc (suc (suc i)))))))) h w = absurd (omega (arith, h))
