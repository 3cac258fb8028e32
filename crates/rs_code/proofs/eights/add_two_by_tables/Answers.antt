use Rattle.std.proofs.Common.{◌≢◌, ℕ, ◌+◌, ◌*◌, ap, ap₂, ◌∙◌, get_or, bit_xor, arith}
use Rattle.rs_code.specs.Coefficients.{lane}
use Rattle.rs_code.proofs.LaneLaws.{lane_set_other, summed}
use Rattle.rs_code.proofs.eights.add_two_by_tables.Goals as goal

pub loop-column-preserved : goal.loop-column-preserved
unfolding lane
loop-column-preserved c =
    let place : ℕ → ℕ = λ j. c.args.row * c.args.columns.width + 2 * (c.args.columns.first + j) in
    let next : ℕ → ℕ = λ j. place j + c.args.columns.width in
    record {
      done =
          summed 8 c.loop-column.sums c.args.sums.now c.loop-column.column c.sum_of_three.result
          (λ j i. bit_xor
          (bit_xor (lane c.args.tables.high.now (get_or c.args.columns.rows.now (place j) 0) i)
          (lane c.args.tables.low.now (get_or c.args.columns.rows.now (place j + 1) 0) i))
          (bit_xor (lane c.args.next_tables.high.now (get_or c.args.columns.rows.now (next j) 0) i)
          (lane c.args.next_tables.low.now (get_or c.args.columns.rows.now (next j + 1) 0) i)))
          (omega arith) c.loop-column.invariant.done c.loop-column.invariant.rest
          (λ i h. c.sum_of_three.ensures i h
          ∙ ap (bit_xor (lane c.loop-column.sums c.loop-column.column i)) (ap₂ bit_xor
          (c.sum_of_two-own.ensures i h
          ∙ ap₂
          (λ (x y : ℕ). bit_xor (lane c.args.tables.high.now x i) (lane c.args.tables.low.now y i))
          c.from.ensures c.from-in-loop-column.ensures)
          (c.sum_of_two-others.ensures i h
          ∙ ap₂
          (λ (x y : ℕ). bit_xor (lane c.args.next_tables.high.now x i)
          (lane c.args.next_tables.low.now y i))
          c.from-in-loop-column-2.ensures c.from-in-loop-column-3.ensures)));
      rest = λ j i h.
          let apart : j ≢ c.loop-column.column = omega arith in
          lane_set_other c.loop-column.sums c.loop-column.column j c.sum_of_three.result i apart
          ∙ c.loop-column.invariant.rest j i (omega arith);
    }
