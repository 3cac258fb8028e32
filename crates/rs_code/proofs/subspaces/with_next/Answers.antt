use Rattle.std.proofs.Common.{◌∙◌}
use Rattle.rs_code.proofs.TransformLaws.{by_next_is}
use Rattle.rs_code.proofs.subspaces.with_next.Goals as goal

pub returns : goal.returns
returns c = c.mul.ensures ∙ by_next_is c.args.y
