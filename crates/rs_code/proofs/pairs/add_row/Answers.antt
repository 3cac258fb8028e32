use Rattle.std.proofs.Common.{ℕ, ◌+◌, ◌*◌, get_or, bit_xor, ap, ◌∙◌}
use Rattle.rs_code.specs.Coefficients.{lane}
use Rattle.rs_code.specs.Rows.{symbol}
use Rattle.rs_code.proofs.pairs.add_row.Goals as goal

pub returns-clause-each : goal.returns-clause-each
unfolding symbol lane
returns-clause-each c = λ j l hj hl.
    let place : ℕ = c.args.row * c.args.columns.width + 2 * (c.args.columns.first + j) in
    let byte : ℕ → ℕ = λ n. get_or c.args.columns.rows.now n 0 in
    c.add_by_tables.ensures.each j l hj hl
    ∙ ap (bit_xor (lane c.args.sums.now j l))
    (c.fill_tables.ensures (byte place) (byte (place + 1)) l
    (c.bytes_fit.ensures place) (c.bytes_fit.ensures (place + 1)) hl)
