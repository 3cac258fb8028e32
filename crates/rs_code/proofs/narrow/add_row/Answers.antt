use Rattle.std.proofs.Common.{◌≡◌, ℕ, ◌+◌, ◌*◌, ◌<◌, get_or, bit_xor, ap, ap₂, ◌∙◌, arith}
use Rattle.std.specs.Int.Bits.{xor_assoc}
use Rattle.rs_code.specs.Field.{times}
use Rattle.rs_code.specs.Coefficients.{lane}
use Rattle.rs_code.specs.Rows.{symbol}
use Rattle.rs_code.proofs.LaneLaws.{by_bytes}
use Rattle.rs_code.proofs.narrow.add_row.Goals as goal

pub returns-clause-each : goal.returns-clause-each
unfolding symbol
returns-clause-each c = λ j l hj hl.
    let place : ℕ = c.args.row * c.args.columns.width + 2 * (c.args.columns.first + j) in
    let start : ℕ = c.args.row * c.args.columns.width + 2 * c.args.columns.first in
    let upper : start + 2 * j ≡ place = omega arith in
    let lower : start + 1 + 2 * j ≡ place + 1 = omega arith in
    let byte : ℕ → ℕ = λ n. get_or c.args.columns.rows.now n 0 in
    let fits : (n : ℕ) → byte n < 256 = c.bytes_fit.ensures in
    let f : ℕ = get_or c.args.factors.now l 0 in
    let old : ℕ = lane c.args.sums.now j l in
    let high : ℕ = times (times f 256) (byte place) in
    let low : ℕ = times f (byte (place + 1)) in
    c.add_bytes-2.ensures.each j l (omega (arith, hj, c.add_bytes.ensures.count)) hl
    ∙ ap₂ bit_xor
    (c.add_bytes.ensures.each j l hj hl
    ∙ ap (bit_xor old) (ap₂ times (c.each_by_256.ensures l hl) (ap byte upper)))
    (ap (λ (n : ℕ). times f (byte n)) lower)
    ∙ xor_assoc old high low
    ∙ ap (bit_xor old)
    (by_bytes f (byte place) (byte (place + 1)) (omega arith) (fits place) (fits (place + 1)))
