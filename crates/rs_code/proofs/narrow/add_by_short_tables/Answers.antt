use Rattle.std.proofs.Common.{◌≢◌, ℕ, ◌+◌, ◌*◌, ◌/◌, ◌%◌, ap, ◌∙◌, get_or, bit_xor, arith}
use Rattle.rs_code.specs.Coefficients.{lane}
use Rattle.rs_code.proofs.LaneLaws.{lane_set_other, summed}
use Rattle.rs_code.proofs.narrow.add_by_short_tables.Goals as goal

pub loop-column-preserved : goal.loop-column-preserved
unfolding lane
loop-column-preserved c =
    let product : ℕ → ℕ → ℕ =
    λ b i. bit_xor (lane c.args.low.now (b % 16) i) (lane c.args.high.now (b / 16) i) in
    record {
      done =
          summed 8 c.loop-column.sums c.args.sums.now c.loop-column.column c.sum_of_three.result
          (λ j i. product (get_or c.args.rows.now (c.args.start + 2 * j) 0) i)
          (omega arith) c.loop-column.invariant.done c.loop-column.invariant.rest
          (λ i h. c.sum_of_three.ensures i h
          ∙ ap (λ (b : ℕ). bit_xor (lane c.loop-column.sums c.loop-column.column i) (product b i))
          c.from-byte.ensures);
      rest = λ j i h.
          let apart : j ≢ c.loop-column.column = omega arith in
          lane_set_other c.loop-column.sums c.loop-column.column j c.sum_of_three.result i apart
          ∙ c.loop-column.invariant.rest j i (omega arith);
    }
