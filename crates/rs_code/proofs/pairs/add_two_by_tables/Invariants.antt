use Rattle.std.proofs.Common.{◌≡◌, ℕ, ◌+◌, ◌*◌, ◌<◌, ◌≤◌, get_or, bit_xor}
use Rattle.rs_code.specs.Coefficients.{lane, half}
use Rattle.rs_code.proofs.pairs.add_two_by_tables.Given as goal

-- the sums so far are done, the others are as they were
abbrev pub invariant-loop-column : goal.invariant-loop-column
invariant-loop-column l =
    let place : ℕ → ℕ = λ j. l.row * l.columns.width + 2 * (l.columns.first + j) in
    let next : ℕ → ℕ = λ j. place j + l.columns.width in
    record {
      done : (j i : ℕ) → j < l.column → i < 2 → lane l.sums j i ≡ bit_xor (lane l.fn.sums j i)
          (bit_xor
          (bit_xor (half (get_or l.tables.high.now (get_or l.columns.rows.now (place j) 0) 0) i)
          (half (get_or l.tables.low.now (get_or l.columns.rows.now (place j + 1) 0) 0) i))
          (bit_xor (half (get_or l.next_tables.high.now (get_or l.columns.rows.now (next j) 0) 0) i)
          (half (get_or l.next_tables.low.now (get_or l.columns.rows.now (next j + 1) 0) 0) i)));
      rest : (j i : ℕ) → l.column ≤ j → lane l.sums j i ≡ lane l.fn.sums j i;
    }
