use Rattle.std.proofs.Common.{◌≡◌, ℕ, ◌+◌, ◌-◌, ◌*◌, ◌<◌, ◌≤◌, List, mul-le-mul_right, length, get_or, sym, ap, ◌∙◌, arith, ⊎_elim}
use Rattle.std.proofs.lemmas.Bool.{cases_lt}
use Rattle.rs_code.specs.Codeword.{sum_below}
use Rattle.rs_code.specs.Coefficients.{lane}
use Rattle.rs_code.specs.Field.{times}
use Rattle.rs_code.specs.Rows.{symbol}
use Rattle.rs_code.specs.Symbols.{symbol_in}
use Rattle.rs_code.proofs.LaneLaws.{through_lanes}
use Rattle.rs_code.proofs.striped.fill_group.Goals as goal

pub fill_area-requires-clause-rows : goal.fill_area-requires-clause-rows
fill_area-requires-clause-rows c =
    c.requires.rows
    ∙ ap (λ (n : ℕ). n * c.args.columns.width)
    (sym (ap length c.deref.ensures.value ∙ c.in_ok-factors.ensures.count))

pub fill_area-requires-clause-out : goal.fill_area-requires-clause-out
fill_area-requires-clause-out c =
    let whole : (c.args.done + c.min-lanes.result) * c.args.wide
    ≤ length c.args.targets.now * c.args.wide =
    mul-le-mul_right c.args.wide (omega (arith, c.min-lanes.ensures)) in
    omega (arith, whole, c.requires.out, c.loop-block.invariant.count)

pub loop-block-preserved : goal.loop-block-preserved
loop-block-preserved c =
    let wide : ℕ = c.args.wide in
    let start : ℕ = 8192 * c.loop-block.block in
    let news : List ℕ = c.fill_area.new.out in
    let value : List (List ℕ) → ℕ → ℕ → ℕ = λ entries p j.
    sum_below (length entries)
    (λ s. times (symbol_in c.args.columns s j)
    (lane entries s p)) in
    record {
      count = c.fill_area.ensures.count ∙ c.loop-block.invariant.count;
      bytes = λ i. omega (arith, c.type_inv.out i);
      before = λ i j hi hj.
          c.fill_area.ensures.others i j (omega (arith, hj))
          (λ low _ _. absurd (omega (arith, hi, low)))
          ∙ c.loop-block.invariant.before i j hi hj;
      written = λ p j hp hc hj.
          ⊎_elim
          (λ low. c.fill_area.ensures.others (c.args.done + p) j (omega (arith, hc))
          (λ _ from _. absurd (omega (arith, from, low)))
          ∙ c.loop-block.invariant.written p j hp hc low)
          (λ high. (let d : ℕ = j - start in
          let whole : j ≡ start + d = omega (arith, high) in
          let within : d < c.min-count.result = omega (arith, hj, hc, high, c.min-count.ensures) in
          ap (λ (n : ℕ). symbol news wide (c.args.done + p) n) whole
          ∙ c.in_ok-fill_area.ensures.written p d hp within
          ∙ ap (λ (n : ℕ). value c.deref.result.now p n) (sym whole)
          ∙ ap (λ (entries : List (List ℕ)). value entries p j) c.deref.ensures.value))
          (cases_lt j start);
    }

pub returns-clause-group : goal.returns-clause-group
returns-clause-group c = λ i j low high within hj.
    let p : ℕ = i - c.args.done in
    let whole : i ≡ c.args.done + p = omega (arith, low) in
    let small : p < 8 = omega (arith, high, low) in
    let there : p < c.min-lanes.result = omega (arith, c.min-lanes.ensures, high, within, low) in
    ap (λ (n : ℕ). symbol c.loop-block.out c.args.wide n j) whole
    ∙ c.loop-block.invariant.written p j there hj
    (omega (arith, hj, c.div_ceil-block-end.ensures, c.loop-block-test.false))
    ∙ through_lanes c.args.basis.now c.next_eight.result c.args.columns.rows.now
    c.in_ok-factors.factors.items c.args.columns.width
    (get_or c.args.targets.now i 0) (c.args.columns.first + j) p c.in_ok-factors.ensures small
    (c.next_eight.ensures p small (omega (arith, within, low))
    ∙ ap (λ (n : ℕ). get_or c.args.targets.now n 0) (sym whole))
