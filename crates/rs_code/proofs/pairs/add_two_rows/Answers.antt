use Rattle.std.proofs.Common.{◌≡◌, ℕ, ◌+◌, ◌*◌, get_or, bit_xor, sym, ap, ap₂, ◌∙◌, arith}
use Rattle.rs_code.specs.Field.{times}
use Rattle.rs_code.specs.Coefficients.{lane}
use Rattle.rs_code.specs.Rows.{symbol}
use Rattle.rs_code.proofs.pairs.add_two_rows.Goals as goal

pub returns-clause-each : goal.returns-clause-each
unfolding symbol lane
returns-clause-each c = λ j l hj hl.
    let place : ℕ = c.args.row * c.args.columns.width + 2 * (c.args.columns.first + j) in
    let next : ℕ = place + c.args.columns.width in
    let below : (c.args.row + 1) * c.args.columns.width + 2 * (c.args.columns.first + j) ≡ next =
    omega arith in
    let byte : ℕ → ℕ = λ n. get_or c.args.columns.rows.now n 0 in
    let g : ℕ = lane c.args.factors.now (c.args.row + 1) l in
    c.add_two_by_tables.ensures.each j l hj hl
    ∙ ap (bit_xor (lane c.args.sums.now j l))
    (ap₂ bit_xor
    (c.fill_tables.ensures (byte place) (byte (place + 1)) l
    (c.bytes_fit.ensures place) (c.bytes_fit.ensures (place + 1)) hl)
    (c.fill_tables-2.ensures (byte next) (byte (next + 1)) l
    (c.bytes_fit.ensures next) (c.bytes_fit.ensures (next + 1)) hl
    ∙ ap (λ (n : ℕ). times (byte n * 256 + byte (n + 1)) g) (sym below)))
