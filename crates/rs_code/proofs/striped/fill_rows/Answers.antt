use Rattle.std.proofs.Common.{ℕ, ◌+◌, ◌/◌, sym, ap, ap₂, ◌∙◌}
use Rattle.std.proofs.lemmas.Result.{on_ok_weaker}
use Rattle.rs_code.specs.declared.recipe.Recipe.{Recipe}
use Rattle.rs_code.specs.Codeword.{codeword}
use Rattle.rs_code.specs.Recipes.{made_count, made_symbol}
use Rattle.rs_code.specs.Rows.{symbol, symbol_bytes, joined}
use Rattle.rs_code.proofs.striped.fill_rows.Goals as goal

pub returns-in-Transformed-clause-rows : goal.returns-in-Transformed-clause-rows
returns-in-Transformed-clause-rows c =
    on_ok_weaker c.fill_transformed.result
    (λ e. e
    ∙ ap₂
    (λ (k m : ℕ). joined m (λ i. symbol_bytes (c.args.wide / 2)
    (λ j. codeword k (λ s. symbol c.args.rows.now c.args.width s (c.args.first + j)) (k + i))))
    c.from.ensures c.from-in-Transformed.ensures
    ∙ ap
    (λ (r : Recipe). joined (made_count r) (λ i. symbol_bytes (c.args.wide / 2)
    (λ j. made_symbol r c.args.rows.now c.args.width i (c.args.first + j))))
    (sym c.in-Transformed.is))
    c.fill_transformed.ensures.rows
