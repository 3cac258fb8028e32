use Rattle.std.proofs.Common.{◌≡◌, ℕ, ◌+◌, ◌*◌, ◌<◌, List, length, get_or, ap, ◌∙◌, arith, ⊎_elim}
use Rattle.std.proofs.lemmas.Bool.{cases_eq, cases_lt}
use Rattle.std.proofs.lemmas.List.{get_or_past}
use Rattle.rs_code.specs.Coefficients.{symbol_through}
use Rattle.rs_code.proofs.SymbolWrites.{rows_of_symbols}
use Rattle.rs_code.proofs.striped.fill_by_weights.Goals as goal

pub loop-group-preserved : goal.loop-group-preserved
loop-group-preserved c =
    let wide : ℕ = c.args.wide in
    let news : List ℕ = c.fill_group.new.out in
    record {
      long = c.fill_group.ensures.count ∙ c.loop-group.invariant.long;
      bytes = λ _ i. c.in_ok-fill_group.ensures.bytes i;
      written = λ i j hi hw hj.
          ⊎_elim
          (λ low. c.fill_group.ensures.before i j low hj
          ∙ c.loop-group.invariant.written i j low hw hj)
          (λ high. c.in_ok-fill_group.ensures.group i j high (omega (arith, hi)) hw hj)
          (cases_lt i (8 * c.loop-group.group));
    }

pub returns-clause-rows : goal.returns-clause-rows
returns-clause-rows c =
    let wide : ℕ = c.args.wide in
    let n : ℕ = length c.args.targets.now in
    let items : List ℕ = c.loop-group.out in
    let long : length items ≡ n * wide = c.loop-group.invariant.long ∙ c.requires.out in
    let value : ℕ → ℕ → ℕ =
    λ i j. symbol_through c.args.basis.now c.args.columns.rows.now c.args.columns.width
    (get_or c.args.targets.now i 0) j in
    let bytes : (i : ℕ) → get_or items i 0 < 256 = λ i.
    ⊎_elim
    (λ none.
    (let empty : n ≡ 0 =
    omega (arith, none, c.div_ceil-group-end.ensures, c.loop-group-test.false) in
    let short : length items ≡ 0 =
    long ∙ ap (λ (m : ℕ). m * wide) empty ∙ (let zero : 0 * wide ≡ 0 = omega arith in zero) in
    let past = get_or_past items i 0 (omega (arith, short)) in omega (arith, past)))
    (λ some. c.loop-group.invariant.bytes (omega (arith, some)) i)
    (cases_eq c.loop-group.group 0) in
    rows_of_symbols n wide items (λ i j. value i (c.args.columns.first + j))
    (record { even = c.requires.even; long = long; bytes = bytes })
    (λ i j hi hj. c.loop-group.invariant.written i j
    (omega (arith, hi, c.div_ceil-group-end.ensures, c.loop-group-test.false)) hi hj)
