use Rattle.std.proofs.Common.{◌∙◌, sym}
use Rattle.voter.proofs.BlockHeights.{heights_kept, heights_same, heights_with, is_block_there}
use Rattle.voter.proofs.heights.Heights.write.Goals as goal

pub returns-then-at-eq0 : goal.returns-then-at-eq0
returns-then-at-eq0 c = λ notes has there.
    let es = c.args.self.now.above.entries in
    let is = sym c.noted_above.ensures ∙ c.in-Some.is in
    heights_with es c.put_there.new.map.entries notes c.args.note.now c.in-Some.commitment
    c.in-Some.above has is (sym c.at.ensures ∙ c.if-at-eq0.true)
    (c.put_there.ensures
    (is_block_there es c.args.note.now c.in-Some.commitment c.in-Some.above there is))

pub returns-else-at-eq0 : goal.returns-else-at-eq0
returns-else-at-eq0 c = λ notes has there.
    heights_kept c.args.self.now.above.entries notes c.args.note.now c.in-Some.commitment
    c.in-Some.above has (sym c.noted_above.ensures ∙ c.in-Some.is)
    (λ zero. c.if-at-eq0.false (c.at.ensures ∙ zero))

pub returns-in_default : goal.returns-in_default
returns-in_default c = λ notes has there.
    heights_same c.args.self.now.above.entries notes c.args.note.now has
    (sym c.noted_above.ensures ∙ c.in_default.is)
