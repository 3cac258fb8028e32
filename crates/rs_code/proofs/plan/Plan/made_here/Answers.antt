use Rattle.std.proofs.Common.{◌≡◌, ℕ, List, length, sym, ap, ◌∙◌, rules}
use Rattle.rs_code.specs.Coefficients.{symbol_through}
use Rattle.rs_code.specs.Means.{points_of}
use Rattle.rs_code.specs.Rows.{row_through}
use Rattle.rs_code.proofs.RecipeRows.{rows_of_shape}
use Rattle.rs_code.proofs.Restored.{none_joined}
use Rattle.rs_code.proofs.plan.Plan.made_here.Goals as goal

pub returns : goal.returns
unfolding row_through symbol_through
returns c =
    let k : ℕ = c.self.inside.k in
    let m : ℕ = c.self.inside.m in
    let basis : List ℕ = c.in-Weighed.basis in
    let points : points_of c.self.inside.means ≡ basis = ap points_of c.in-Weighed.is in
    rows_of_shape c.args.self.now k m basis _ c.args.targets.now c.args.rows.now c.args.width
    (sym c.self.view_is
    ∙ ap (λ (ps : List ℕ). record { k = k; m = m; points = ps }) points)
    (sym (ap length points) ∙ c.self.invariant.0) c.in_ok-made.ensures

pub returns-then-is_empty : goal.returns-then-is_empty
returns-then-is_empty c = none_joined _ _ _ (search rules) (search rules)
