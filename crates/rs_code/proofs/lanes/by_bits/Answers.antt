use Rattle.std.proofs.Common.{zero, suc, arith}
use Rattle.rs_code.proofs.lanes.by_bits.Goals as goal

pub returns : goal.returns
returns c zero h w = c.by_bit.ensures w
returns c (suc zero) h w = c.by_bit-2.ensures w
returns c (suc (suc zero)) h w = c.by_bit-3.ensures w
returns c (suc (suc (suc zero))) h w = c.by_bit-4.ensures w
returns c (suc (suc (suc (suc zero)))) h w = c.by_bit-5.ensures w
returns c (suc (suc (suc (suc (suc zero))))) h w = c.by_bit-6.ensures w
returns c (suc (suc (suc (suc (suc (suc zero)))))) h w = c.by_bit-7.ensures w
returns c (suc (suc (suc (suc (suc (suc (suc zero))))))) h w = c.by_bit-8.ensures w
returns c (suc (suc (suc (suc (suc (suc (suc (suc i)))))))) h w = absurd (omega (arith, h))
