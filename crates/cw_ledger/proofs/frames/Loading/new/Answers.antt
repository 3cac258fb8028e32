use Rattle.std.proofs.Common.{refl}
use Rattle.cw_ledger.proofs.Loading.{begins}
use Rattle.cw_ledger.proofs.frames.Loading.new.Goals as goal

pub returns : goal.returns
returns c = (begins c.in_ok-balances.balances c.in_ok-balances.ensures, refl)
