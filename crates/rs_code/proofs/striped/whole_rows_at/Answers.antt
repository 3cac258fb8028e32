use Rattle.std.proofs.Common.{◌∙◌}
use Rattle.rs_code.specs.Recipes.{made_count}
use Rattle.rs_code.proofs.RowBytes.{joined_same}
use Rattle.rs_code.proofs.StripeCuts.{only_stripe}
use Rattle.rs_code.proofs.striped.whole_rows_at.Goals as goal

pub returns : goal.returns
returns c =
    c.in_ok-whole.ensures
    ∙ joined_same (made_count c.args.recipe.now) _ _
    (λ i _. only_stripe c.args.width c.requires.even _)
