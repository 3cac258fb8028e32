use Rattle.std.proofs.Common.{◌∙◌, ap, subst, sym}
use Rattle.voter.specs.Known.{Known}
use Rattle.voter.specs.Runs.{HaveRuns}
use Rattle.voter.specs.declared.runs.Run.{Run}
use Rattle.voter.proofs.Running.{none_below_view, run_below_view}
use Rattle.voter.proofs.tally.Tally.nullified_from.Goals as goal

pub returns-then-nullified : goal.returns-then-nullified
returns-then-nullified g c =
    let es = c.self.inside.index.facts.runs.by_end.entries in
    let have =
    subst (λ (k : Known). HaveRuns k.notes es) c.self.view_is c.self.invariant.facts.running in
    ap (λ (r : Run). r.first) c.at.ensures
    ∙ run_below_view c.args.self.now.notes es c.args.epoch c.view-view.result have
    c.view-view.ensures (sym c.nullified.ensures ∙ c.if-nullified.true)

pub returns-else-nullified : goal.returns-else-nullified
returns-else-nullified g c =
    none_below_view c.args.self.now.notes c.args.epoch c.view-view.result c.view-view.ensures
    (sym c.nullified.ensures ∙ c.if-nullified.false)
