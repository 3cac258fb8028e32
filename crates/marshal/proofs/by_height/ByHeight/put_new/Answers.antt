use Rattle.std.proofs.Common.{◌∙◌, Some, ap, sym}
use Rattle.cw_types.proofs.Same.{same_commitment-true}
use Rattle.marshal.proofs.by_height.ByHeight.put_new.Goals as goal

pub returns-else-not-is_same-clause-there : goal.returns-else-not-is_same-clause-there
returns-else-not-is_same-clause-there c = λ stops known.
    sym c.in-Some.ensures.value
    ∙ ap Some
    (same_commitment-true c.in-Some.there.now c.args.commitment
    (sym c.is_same.ensures ∙ c.if-not-is_same.false))
