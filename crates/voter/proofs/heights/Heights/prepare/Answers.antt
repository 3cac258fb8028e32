use Rattle.std.proofs.Common.{◌∙◌, sym}
use Rattle.voter.proofs.BlockHeights.{block_there, heights_prepared}
use Rattle.voter.proofs.heights.Heights.prepare.Goals as goal

pub returns-in_ok-put_first-in-Some-clause-same : goal.returns-in_ok-put_first-in-Some-clause-same
returns-in_ok-put_first-in-Some-clause-same c = λ notes has.
    heights_prepared c.args.self.now.above.entries c.put_first.new.map.entries c.in-Some.commitment
    c.in_ok-put_first-in-Some.ensures.ok notes has

pub returns-in_ok-put_first-in-Some-clause-there : goal.returns-in_ok-put_first-in-Some-clause-there
returns-in_ok-put_first-in-Some-clause-there c =
    block_there c.args.self.now.above.entries c.put_first.new.map.entries c.in-Some.commitment
    c.in-Some.field-0-1
    c.in_ok-put_first-in-Some.ensures.ok c.args.note.now (sym c.noted_above.ensures ∙ c.in-Some.is)
