use Rattle.std.proofs.Common.{◌≡◌, ◌++◌, ◌∙◌, List, [], ◌∷◌, drop, refl, sym, ap, subst, append-nil, arith}
use Rattle.std.proofs.lemmas.List.{drop_all}
use Rattle.cw_rules.specs.Report.{Entry}
use Rattle.cw_rules.specs.World.{Line}
use Rattle.run_picture.specs.Steps.{Step}
use Rattle.hail_picture.specs.Drawing.{steps_of}
use Rattle.hail_picture.proofs.drawing.steps_of.Goals as goal

no_lines : (entries : List Entry) → steps_of [] entries ≡ []
no_lines [] = refl
no_lines (e ∷ entries) = refl

-- where no line is left, all steps are there
all_there : (steps whole : List Step) (left : List Line) (rest : List Entry) → left ≡ []
    → steps ++ steps_of left rest ≡ whole → steps ≡ whole
all_there steps whole left rest none so_far =
    sym (append-nil steps) ∙ ap (λ (t : List Step). steps ++ t) (sym (no_lines rest))
    ∙ subst (λ (l : List Line). steps ++ steps_of l rest ≡ whole) none so_far

pub returns : goal.returns
returns c =
    all_there c.loop-line.steps.items (steps_of c.args.lines.now c.args.entries.now)
    (drop c.loop-line.line-index c.args.lines.now) c.loop-line.rest.now
    (drop_all c.loop-line.line-index c.args.lines.now (omega arith)) c.loop-line.invariant
