use Rattle.std.proofs.Common.{◌≡◌, ℕ, ◌+◌, ◌-◌, ◌*◌, ◌/◌, ◌<◌, ◌≤◌, List, sym, ap, ◌∙◌, arith, ⊎_elim, mul-le-mul_right}
use Rattle.std.proofs.lemmas.Bool.{cases_lt}
use Rattle.rs_code.specs.Codeword.{codeword}
use Rattle.rs_code.specs.Rows.{symbol}
use Rattle.rs_code.proofs.SymbolWrites.{rows_of_symbols}
use Rattle.rs_code.proofs.transformed.fill_transformed.Goals as goal

pub loop-block-preserved : goal.loop-block-preserved
loop-block-preserved c =
    let start : ℕ = c.columns_at_once-each.result * c.loop-block.block in
    record {
      long = c.fill_columns.ensures.count ∙ c.loop-block.invariant.long;
      written = λ i j hi to hj.
          ⊎_elim
          (λ before. c.in_ok-fill_columns.ensures.others i j (omega (arith, hj))
          (λ from _. absurd (omega (arith, from, before)))
          ∙ c.loop-block.invariant.written i j hi before hj)
          (λ here.
          let place : start + (j - start) ≡ j = omega (arith, here) in
          let column : c.args.columns.first + start + (j - start) ≡ c.args.columns.first + j = omega (arith, here) in
          let within : j - start < c.min-n.result = omega (arith, c.min-n.ensures, to, hj, here) in
          ap (λ (m : ℕ). symbol c.fill_columns.new.out c.args.wide i m) (sym place)
          ∙ c.in_ok-fill_columns.ensures.written i (j - start) hi within
          ∙ ap
          (λ (m : ℕ). codeword c.args.k (λ s. symbol c.args.columns.rows.now c.args.columns.width s m) (c.args.k + i))
          column)
          (cases_lt j start);
    }

pub returns-clause-rows : goal.returns-clause-rows
returns-clause-rows c =
    let items : List ℕ = c.loop-block.out in
    let each : ℕ = c.columns_at_once-each.result in
    let covered : c.pieces-block-end.result * each ≤ c.loop-block.block * each =
    mul-le-mul_right each (omega arith) in
    let done : c.args.wide / 2 ≤ each * c.loop-block.block =
    omega (arith, c.pieces-block-end.ensures.all, covered) in
    rows_of_symbols c.args.m c.args.wide items
    (λ i j. codeword c.args.k (λ s. symbol c.args.columns.rows.now c.args.columns.width s (c.args.columns.first + j))
    (c.args.k + i))
    (record {
      even = c.requires.even;
      long = c.loop-block.invariant.long ∙ c.requires.out;
      bytes = c.bytes_fit.ensures;
    })
    (λ i j hi hj. c.loop-block.invariant.written i j hi (omega (arith, done, hj)) hj)
