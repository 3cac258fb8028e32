use Rattle.std.proofs.Common.{◌≡◌, ℕ, ◌+◌, ◌*◌, ◌≤◌, mul-le-mul_right, length, bit_xor, refl, sym, ap, ◌∙◌, arith}
use Rattle.std.specs.Int.Bits.{xor_assoc}
use Rattle.rs_code.specs.Codeword.{sum_below}
use Rattle.rs_code.specs.Field.{times}
use Rattle.rs_code.specs.Coefficients.{lane}
use Rattle.rs_code.specs.Symbols.{symbol_in}
use Rattle.rs_code.proofs.Codewords.{sum_none, sum_more}
use Rattle.rs_code.proofs.pairs.add_row_pairs.Goals as goal

pub loop-pair-init : goal.loop-pair-init
loop-pair-init c = record {
  count = refl;
  each = λ none j i hj hi. none j i hj hi ∙ sym (sum_none _);
}

pub add_two_rows-requires-clause-columns : goal.add_two_rows-requires-clause-columns
add_two_rows-requires-clause-columns c =
    let whole : (2 * c.loop-pair.pair + 2) * c.args.columns.width
    ≤ length c.args.factors.now * c.args.columns.width =
    mul-le-mul_right c.args.columns.width (omega arith) in
    omega (arith, whole, c.requires.rows, c.requires.columns, c.loop-pair.invariant.count)

pub loop-pair-preserved : goal.loop-pair-preserved
unfolding lane
loop-pair-preserved c = record {
  count = c.add_two_rows.ensures.count ∙ c.loop-pair.invariant.count;
  each = λ none j i hj hi.
      (let f : ℕ → ℕ =
      λ s. times (symbol_in c.args.columns s j)
      (lane c.args.factors.now s i) in
      let n : ℕ = 2 * c.loop-pair.pair in
      c.add_two_rows.ensures.each j i (omega (arith, hj, c.loop-pair.invariant.count)) hi
      ∙ ap (λ (x : ℕ). bit_xor x (bit_xor (f n) (f (n + 1))))
      (c.loop-pair.invariant.each none j i hj hi)
      ∙ sym (xor_assoc (sum_below n f) (f n) (f (n + 1)))
      ∙ ap (λ (x : ℕ). bit_xor x (f (n + 1))) (sym (sum_more n f))
      ∙ sym (sum_more (n + 1) f)
      ∙ ap (λ (m : ℕ). sum_below m f)
      (let more : n + 1 + 1 ≡ 2 * (c.loop-pair.pair + 1) = omega arith in more));
}
