use Rattle.std.proofs.Common.{true}
use Rattle.shards.proofs.laws.coder_laws.Goals as goal

pub returns : goal.returns
returns c hash epochs = c.coded_laws.ensures.coder hash epochs 0 (λ b a. true)
