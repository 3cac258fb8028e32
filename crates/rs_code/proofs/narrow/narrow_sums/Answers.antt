use Rattle.std.proofs.Common.{◌≡◌, ℕ, ◌<◌, List, length, ap, ◌∙◌, arith}
use Rattle.rs_code.specs.Coefficients.{lane}
use Rattle.rs_code.proofs.LaneLaws.{written_back}
use Rattle.rs_code.proofs.narrow.narrow_sums.Goals as goal

pub add_rows-requires-clause-columns : goal.add_rows-requires-clause-columns
add_rows-requires-clause-columns c =
    omega (
      arith,
      c.requires.columns,
      ap length c.deref_mut.ensures.value,
      c.in_ok-sums.ensures.count,
    )

pub add_rows-requires-clause-tables : goal.add_rows-requires-clause-tables
add_rows-requires-clause-tables c =
    ap length c.deref_mut-2.ensures.value ∙ c.in_ok-tables.ensures.count

pub returns-clause-count : goal.returns-clause-count
returns-clause-count c =
    let long : length c.add_rows.new.sums ≡ c.args.count =
    c.add_rows.ensures.count ∙ ap length c.deref_mut.ensures.value ∙ c.in_ok-sums.ensures.count in
    ap length
    (written_back c.in_ok-sums.sums.items c.add_rows.new.sums c.in_ok-sums.sums.len
    (omega (arith, c.in_ok-sums.sums.ok.0, c.in_ok-sums.ensures.count, long)))
    ∙ long

pub returns-clause-each : goal.returns-clause-each
returns-clause-each c = λ j l hj hl.
    let given : length c.deref_mut.result.now ≡ c.args.count =
    ap length c.deref_mut.ensures.value ∙ c.in_ok-sums.ensures.count in
    let long : length c.add_rows.new.sums ≡ c.args.count = c.add_rows.ensures.count ∙ given in
    let none : (j l : ℕ) → j < length c.deref_mut.result.now → l < 8
    → lane c.deref_mut.result.now j l ≡ 0 =
    λ j l h _. ap (λ (xs : List (List ℕ)). lane xs j l) c.deref_mut.ensures.value
    ∙ c.in_ok-sums.ensures.each j l (omega (arith, h, given)) in
    ap (λ (xs : List (List ℕ)). lane xs j l)
    (written_back c.in_ok-sums.sums.items c.add_rows.new.sums c.in_ok-sums.sums.len
    (omega (arith, c.in_ok-sums.sums.ok.0, c.in_ok-sums.ensures.count, long)))
    ∙ c.add_rows.ensures.each none j l (omega (arith, hj, given)) hl
