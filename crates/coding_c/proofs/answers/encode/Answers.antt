use Rattle.std.proofs.Common.{refl, inr}
use Rattle.cw_coding.specs.declared.error.ReedSolomonError.TheVariants.{NoMemory}
use Rattle.coding_c.proofs.answers.encode.Goals as goal

-- where there is no memory for the bytes
pub returns-clause-refused : goal.returns-clause-refused
returns-clause-refused c = inr (NoMemory, tt, refl)
