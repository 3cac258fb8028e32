use Rattle.std.proofs.Common.{ℕ, ◌+◌, ◌*◌, ◌≤◌, mul-le-mul_right, length, bit_xor, refl, sym, ap, ◌∙◌, arith}
use Rattle.rs_code.specs.Field.{times}
use Rattle.rs_code.specs.Coefficients.{lane}
use Rattle.rs_code.specs.Symbols.{symbol_in}
use Rattle.rs_code.proofs.Codewords.{sum_none, sum_more}
use Rattle.rs_code.proofs.narrow.add_rows.Goals as goal

pub loop-row-init : goal.loop-row-init
loop-row-init c = record {
  count = refl;
  each = λ none j i hj hi. none j i hj hi ∙ sym (sum_none _);
}

pub loop-row-preserved : goal.loop-row-preserved
unfolding lane
loop-row-preserved c = record {
  count = c.add_row.ensures.count ∙ c.loop-row.invariant.count;
  each = λ none j i hj hi.
      (let f : ℕ → ℕ =
      λ s. times (symbol_in c.args.columns s j)
      (lane c.args.factors.now s i) in
      c.add_row.ensures.each j i (omega (arith, hj, c.loop-row.invariant.count)) hi
      ∙ ap (λ (x : ℕ). bit_xor x (f c.loop-row.row)) (c.loop-row.invariant.each none j i hj hi)
      ∙ sym (sum_more c.loop-row.row f));
}

pub add_row-requires-clause-room : goal.add_row-requires-clause-room
add_row-requires-clause-room c =
    let whole : (c.loop-row.row + 1) * c.args.columns.width
    ≤ length c.args.factors.now * c.args.columns.width =
    mul-le-mul_right c.args.columns.width (omega arith) in
    omega (arith, whole, c.requires.rows, c.requires.columns, c.loop-row.invariant.count)
