use Rattle.marshal.proofs.Knowing.{known_none}
use Rattle.marshal.proofs.by_height.ByHeight.new.Goals as goal

pub returns : goal.returns
returns c = λ r notes known. known_none r notes c.new.result.entries c.new.ensures.empty
