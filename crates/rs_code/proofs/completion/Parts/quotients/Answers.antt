use Rattle.std.proofs.Common.{ℕ, ◌*◌, ◌/◌, bit_xor, List, length, get_or, ap, ap₂, ◌∙◌, arith}
use Rattle.std.proofs.lemmas.Result.{IfOk-weaker}
use Rattle.cw_base.specs.Rows.{row_of}
use Rattle.rs_code.specs.Field.{times}
use Rattle.rs_code.specs.Rows.{symbol, symbol_bytes, joined}
use Rattle.rs_code.proofs.CompletionSteps.{quotient_rows}
use Rattle.rs_code.proofs.completion.Parts.quotients.Goals as goal

pub returns-clause-rows : goal.returns-clause-rows
returns-clause-rows c =
    let w : ℕ = c.args.width in
    let rows : List ℕ = c.args.rows.now in
    let near : List ℕ = c.args.near.now in
    let scales : List ℕ = c.args.self.now.scales.items in
    let spots : List ℕ = c.args.self.now.spots.items in
    let recoveries : List ℕ = c.args.self.now.recoveries.items in
    let given : List ℕ = c.in_ok-given.given.items in
    let others : List ℕ = c.in_ok-others.others.items in
    let sums : List ℕ = c.deref-5.result.now in
    IfOk-weaker c.scaled.result _ _
    (λ v e. e
    ∙ ap
    (λ (fs : List ℕ). joined (length fs)
    (λ i. symbol_bytes (w / 2) (λ j. times (symbol sums w i j) (get_or fs i 0))))
    c.deref-6.ensures.value
    ∙ quotient_rows w (length scales) rows near given others sums scales spots recoveries
    c.requires.spots c.requires.recoveries c.requires.given c.requires.others
    (c.in_ok-given.ensures.rows
    ∙ ap (λ (ps : List ℕ). joined (length ps) (λ i. row_of rows w (get_or ps i 0)))
    c.deref.ensures.value)
    (c.in_ok-others.ensures.rows
    ∙ ap (λ (ps : List ℕ). joined (length ps) (λ i. row_of near w (get_or ps i 0)))
    c.deref-2.ensures.value)
    (c.in_ok-given.ensures.long ∙ ap (λ (ps : List ℕ). length ps * w) c.deref.ensures.value)
    (λ j t h l.
    ap (λ (xs : List ℕ). symbol xs w j t) c.deref-5.ensures.value
    ∙ c.in_ok-differences.ensures.symbols w j t
    (omega (arith, h, ap length c.deref-3.ensures.value)) l
    ∙ ap₂ (λ (xs ys : List ℕ). bit_xor (symbol xs w j t) (symbol ys w j t))
    c.deref-3.ensures.value c.deref-4.ensures.value))
    c.scaled.ensures.rows
