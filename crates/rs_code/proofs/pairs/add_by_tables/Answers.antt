use Rattle.std.proofs.Common.{◌≢◌, ℕ, ◌+◌, ◌*◌, ap, ap₂, ◌∙◌, get_or, bit_xor, arith}
use Rattle.rs_code.specs.Coefficients.{lane, half}
use Rattle.rs_code.proofs.LaneLaws.{lane_set_other, summed, half_xor}
use Rattle.rs_code.proofs.pairs.add_by_tables.Goals as goal

pub loop-column-preserved : goal.loop-column-preserved
unfolding lane
loop-column-preserved c =
    let place : ℕ → ℕ = λ j. c.args.row * c.args.columns.width + 2 * (c.args.columns.first + j) in
    let byte : ℕ → ℕ = λ n. get_or c.args.columns.rows.now n 0 in
    let upper : ℕ → ℕ = λ b. get_or c.args.tables.high.now b 0 in
    let lower : ℕ → ℕ = λ b. get_or c.args.tables.low.now b 0 in
    record {
      done =
          summed 2 c.loop-column.sums c.args.sums.now c.loop-column.column c.sum_with.result
          (λ j i. bit_xor (half (upper (byte (place j))) i) (half (lower (byte (place j + 1))) i))
          (omega arith) c.loop-column.invariant.done c.loop-column.invariant.rest
          (λ i h. c.sum_with.ensures i h
          ∙ ap (bit_xor (lane c.loop-column.sums c.loop-column.column i)) (half_xor _ _ i
          ∙ ap₂ (λ (x y : ℕ). bit_xor (half (upper x) i) (half (lower y) i)) c.from.ensures
          c.from-in-loop-column.ensures));
      rest = λ j i h.
          let apart : j ≢ c.loop-column.column = omega arith in
          lane_set_other c.loop-column.sums c.loop-column.column j c.sum_with.result i apart
          ∙ c.loop-column.invariant.rest j i (omega arith);
    }
