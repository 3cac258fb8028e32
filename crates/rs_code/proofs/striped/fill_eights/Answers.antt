use Rattle.std.proofs.Common.{◌≡◌, ℕ, ◌+◌, ◌*◌, ◌<◌, ◌≤◌, List, length, sym, ap, ◌∙◌, arith, ⊎_elim, add_assoc, mul-le-mul_right}
use Rattle.std.proofs.lemmas.Bool.{cases_eq}
use Rattle.rs_code.specs.Codeword.{sum_below}
use Rattle.rs_code.specs.Coefficients.{lane}
use Rattle.rs_code.specs.Field.{times}
use Rattle.rs_code.specs.Rows.{symbol}
use Rattle.rs_code.specs.Symbols.{symbol_in}
use Rattle.rs_code.proofs.striped.fill_eights.Goals as goal

pub fill_lane-requires-clause-row : goal.fill_lane-requires-clause-row
fill_lane-requires-clause-row c =
    let whole : (c.args.area.done + c.loop-place.place + 1) * c.args.area.wide
    ≤ (c.args.area.done + c.args.area.lanes) * c.args.area.wide =
    mul-le-mul_right c.args.area.wide (omega arith) in
    omega (arith, whole, c.requires.out, c.loop-place.invariant.count)

pub fill_lane-requires-clause-columns : goal.fill_lane-requires-clause-columns
fill_lane-requires-clause-columns c =
    omega (arith, c.requires.own, ap length c.deref.ensures.value, c.in_ok-sums.ensures.count)

pub loop-place-preserved : goal.loop-place-preserved
loop-place-preserved c =
    let wide : ℕ = c.args.area.wide in
    let news : List ℕ = c.fill_lane.new.rows in
    let long : length c.deref.result.now ≡ c.args.area.count =
    ap length c.deref.ensures.value ∙ c.in_ok-sums.ensures.count in
    let value : ℕ → ℕ → ℕ = λ p j.
    sum_below (length c.args.factors.now)
    (λ s. times (symbol_in c.args.columns s (c.args.area.start + j))
    (lane c.args.factors.now s p)) in
    let own : (j : ℕ) → j < c.args.area.count
    → symbol news wide (c.args.area.done + c.loop-place.place) (c.args.area.start + j)
    ≡ value c.loop-place.place j =
    λ j h.
    c.fill_lane.ensures.written j (omega (arith, h, long))
    ∙ ap (λ (entries : List (List ℕ)). lane entries j c.loop-place.place) c.deref.ensures.value
    ∙ c.in_ok-sums.ensures.each j c.loop-place.place h (omega arith)
    ∙ ap
    (λ (n : ℕ). sum_below (length c.args.factors.now)
    (λ s. times (symbol c.args.columns.rows.now c.args.columns.width s n)
    (lane c.args.factors.now s c.loop-place.place)))
    (add_assoc c.args.columns.first c.args.area.start j) in
    record {
      count = c.fill_lane.ensures.count ∙ c.loop-place.invariant.count;
      others = λ i j h away.
          c.fill_lane.ensures.others i j h
          (λ same low high. away (omega (arith, same)) low (omega (arith, high, long)))
          ∙ c.loop-place.invariant.others i j h away;
      written = λ p j hp hj.
          ⊎_elim
          (λ last.
          ap (λ (n : ℕ). symbol news wide (c.args.area.done + n) (c.args.area.start + j)) last
          ∙ own j hj ∙ ap (λ (n : ℕ). value n j) (sym last))
          (λ other. c.fill_lane.ensures.others (c.args.area.done + p) (c.args.area.start + j)
          (omega (arith, hj)) (λ same _ _. other (omega (arith, same)))
          ∙ c.loop-place.invariant.written p j (omega (arith, hp, other)) hj)
          (cases_eq p c.loop-place.place);
    }
