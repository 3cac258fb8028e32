use Rattle.marshal.proofs.Loading.{begins}
use Rattle.marshal.proofs.frames.Loading.new.Goals as goal

pub returns : goal.returns
returns c = rw c.new.ensures.items begins
