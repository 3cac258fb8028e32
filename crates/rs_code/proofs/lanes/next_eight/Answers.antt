use Rattle.std.proofs.Common.{zero, suc, arith}
use Rattle.rs_code.proofs.lanes.next_eight.Goals as goal

pub returns : goal.returns
returns c zero h w = c.element_in.ensures w
returns c (suc zero) h w = c.element_in-2.ensures w
returns c (suc (suc zero)) h w = c.element_in-3.ensures w
returns c (suc (suc (suc zero))) h w = c.element_in-4.ensures w
returns c (suc (suc (suc (suc zero)))) h w = c.element_in-5.ensures w
returns c (suc (suc (suc (suc (suc zero))))) h w = c.element_in-6.ensures w
returns c (suc (suc (suc (suc (suc (suc zero)))))) h w = c.element_in-7.ensures w
returns c (suc (suc (suc (suc (suc (suc (suc zero))))))) h w = c.element_in-8.ensures w
returns c (suc (suc (suc (suc (suc (suc (suc (suc i)))))))) h w = absurd (omega (arith, h))
