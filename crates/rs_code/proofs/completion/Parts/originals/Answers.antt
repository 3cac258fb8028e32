use Rattle.std.proofs.Common.{◌≡◌, ℕ, ◌*◌, ◌/◌, ◌++◌, List, length, get_or, ap, ap₂, ◌∙◌, arith}
use Rattle.std.proofs.lemmas.Result.{IfOk-weaker}
use Rattle.cw_base.specs.Rows.{row_of}
use Rattle.rs_code.specs.Field.{times}
use Rattle.rs_code.specs.Rows.{symbol, symbol_bytes, joined}
use Rattle.rs_code.proofs.CompletionSteps.{rows_added}
use Rattle.rs_code.proofs.completion.Parts.originals.Goals as goal

pub picked_of_two-requires-clause-within : goal.picked_of_two-requires-clause-within
picked_of_two-requires-clause-within c = λ i h.
    let w : ℕ = c.args.width in
    let n : ℕ = length c.args.self.now.distances.items in
    let long : length c.deref-2.result.now ≡ n * w =
    ap length c.deref-2.ensures.value ∙ c.in_ok-missing.ensures.long
    ∙ ap (λ (xs : List ℕ). length xs * w) c.deref.ensures.value in
    omega (
      arith,
      ap (λ (xs : List ℕ). get_or xs i 0) c.deref-3.ensures.value,
      c.requires.within i (omega (arith, h, ap length c.deref-3.ensures.value)),
      rows_added c.args.rows.now c.deref-2.result.now w n c.requires.some_width c.requires.whole
          long,
    )

pub returns-clause-rows : goal.returns-clause-rows
returns-clause-rows c =
    let w : ℕ = c.args.width in
    let rows : List ℕ = c.args.rows.now in
    let factors : List ℕ = c.args.factors.now in
    IfOk-weaker c.picked_of_two.result _ _
    (λ v e. e
    ∙ ap₂ (λ (ps ms : List ℕ). joined (length ps) (λ i. row_of (rows ++ ms) w (get_or ps i 0)))
    c.deref-3.ensures.value
    (c.deref-2.ensures.value ∙ c.in_ok-missing.ensures.rows
    ∙ ap
    (λ (ds : List ℕ). joined (length ds)
    (λ j. symbol_bytes (w / 2) (λ t. times (symbol factors w j t) (get_or ds j 0))))
    c.deref.ensures.value))
    c.picked_of_two.ensures.rows
