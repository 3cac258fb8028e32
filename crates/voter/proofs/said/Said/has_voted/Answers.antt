use Rattle.std.proofs.Common.{◌||◌, ◌∙◌, ap, sym}
use Rattle.std.specs.List.{list_any}
use Rattle.voter.specs.Facts.{note_says, said_at}
use Rattle.note_scans.specs.Keys.{in_view}
use Rattle.voter.proofs.Saying.{said_voted}
use Rattle.voter.proofs.said.Said.has_voted.Goals as goal

pub returns-then-has : goal.returns-then-has
returns-then-has c = λ notes has.
    c.if-has.true
    ∙ (ap (λ b. b || list_any (note_says (in_view 5 c.args.epoch c.args.view)) notes)
    (sym c.if-has.true
    ∙ (c.has.ensures
    ∙ (ap (λ k. said_at k c.args.self.now.by_key.entries) c.in_view.ensures
    ∙ has (in_view 4 c.args.epoch c.args.view))))
    ∙ said_voted c.args.epoch c.args.view notes)

pub returns-else-has : goal.returns-else-has
returns-else-has c = λ notes has.
    c.has-else-has.ensures
    ∙ (ap (λ k. said_at k c.args.self.now.by_key.entries) c.in_view-else-has.ensures
    ∙ (has (in_view 5 c.args.epoch c.args.view)
    ∙ (ap (λ b. b || list_any (note_says (in_view 5 c.args.epoch c.args.view)) notes)
    (sym c.if-has.false
    ∙ (c.has.ensures
    ∙ (ap (λ k. said_at k c.args.self.now.by_key.entries) c.in_view.ensures
    ∙ has (in_view 4 c.args.epoch c.args.view))))
    ∙ said_voted c.args.epoch c.args.view notes)))
