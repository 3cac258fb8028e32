use Rattle.std.proofs.Common.{◌∙◌, sym}
use Rattle.marshal.proofs.Givens.{last_is}
use Rattle.marshal.proofs.given.last_given.Goals as goal

pub returns-clause-value : goal.returns-clause-value
returns-clause-value c =
    c.copied.ensures ∙ (c.last.ensures.value ∙ sym (last_is c.args.given.now))
