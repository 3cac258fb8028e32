use Rattle.cw_base.proofs.Ends.{end_of_end}
use Rattle.cw_tree.proofs.codec.read_siblings.Goals as goal

pub returns-in_err-count-clause-place : goal.returns-in_err-count-clause-place
returns-in_err-count-clause-place g c = c.u8.ensures.place

pub returns-then-count-gt32-clause-place : goal.returns-then-count-gt32-clause-place
returns-then-count-gt32-clause-place g c = c.u8.ensures.place

pub returns-in-Ok-clause-place : goal.returns-in-Ok-clause-place
returns-in-Ok-clause-place g c = end_of_end c.u8.ensures.place c.read_digests.ensures.place

pub returns-in-Err-clause-place : goal.returns-in-Err-clause-place
returns-in-Err-clause-place g c = end_of_end c.u8.ensures.place c.read_digests.ensures.place
