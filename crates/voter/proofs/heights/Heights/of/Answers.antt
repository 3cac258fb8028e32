use Rattle.std.proofs.Common.{◌∙◌}
use Rattle.cw_rules.specs.Accepted.{first_some}
use Rattle.cw_rules.specs.Held.{noted_block_of}
use Rattle.voter.proofs.BlockHeights.{none_above, some_above}
use Rattle.voter.proofs.heights.Heights.of.Goals as goal

pub returns-then-above-eq0-clause-value : goal.returns-then-above-eq0-clause-value
returns-then-above-eq0-clause-value c = λ notes has.
    none_above (first_some (noted_block_of c.args.commitment.now) notes) c.at-above.result
    (c.at-above.ensures ∙ has c.args.commitment.now) c.if-above-eq0.true

pub returns-else-above-eq0-clause-value : goal.returns-else-above-eq0-clause-value
returns-else-above-eq0-clause-value c = λ notes has.
    some_above (first_some (noted_block_of c.args.commitment.now) notes) c.at-above.result
    (c.at-above.ensures ∙ has c.args.commitment.now) c.if-above-eq0.false
