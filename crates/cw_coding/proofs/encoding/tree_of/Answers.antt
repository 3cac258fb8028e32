use Rattle.std.proofs.Common.{◌∙◌, ap, arith, length}
use Rattle.cw_coding.proofs.encoding.tree_of.Goals as goal

pub of-requires-clause-few : goal.of-requires-clause-few
of-requires-clause-few g c κs within =
    omega (arith, ap length c.from_vec.ensures, c.requires.few)

pub build-requires-clause-some : goal.build-requires-clause-some
build-requires-clause-some g c κs within =
    omega (arith, ap length (c.of.ensures ∙ c.from_vec.ensures), c.requires.some)

pub returns : goal.returns
returns g c = c.in_ok-tree.ensures ∙ c.of.ensures ∙ c.from_vec.ensures
