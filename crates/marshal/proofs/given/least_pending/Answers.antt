use Rattle.std.proofs.Common.{◌∙◌, ap, sym}
use Rattle.cw_rules.specs.Direct.{least}
use Rattle.marshal.proofs.Givens.{got, least_behind}
use Rattle.marshal.proofs.given.least_pending.Goals as goal

pub returns-clause-value : goal.returns-clause-value
returns-clause-value c =
    c.copied.ensures
    ∙ (got c.args.given.now c.pending_from.result c.get.result c.get.ensures.lookup.0
    c.get.ensures.lookup.1
    ∙ (sym (least_behind c.pending_from.result c.args.given.now c.requires.rising)
    ∙ sym (ap least c.pending_from.ensures.pending)))
