use Rattle.std.proofs.Common.{ℕ, ◌+◌, ◌*◌, ◌/◌, ◌%◌, ◌<◌, get_or, bit_xor, ap, ap₂, ◌∙◌, arith}
use Rattle.rs_code.specs.Field.{times}
use Rattle.rs_code.specs.Coefficients.{lane}
use Rattle.rs_code.proofs.Steps.{by_eight_bits}
use Rattle.rs_code.proofs.narrow.add_bytes.Goals as goal

pub returns-clause-each : goal.returns-clause-each
returns-clause-each c = λ j l hj hl.
    let byte : ℕ = get_or c.args.rows.now (c.args.start + 2 * j) 0 in
    let fits : byte < 256 = omega (arith, c.type_inv.rows (c.args.start + 2 * j)) in
    let f : ℕ = get_or c.args.factors.now l 0 in
    c.add_by_short_tables.ensures.each j l hj hl
    ∙ ap (bit_xor (lane c.args.sums.now j l))
    (ap₂ bit_xor
    (c.spread_short.ensures.each (byte % 16) l (omega arith) hl)
    (c.spread_short-2.ensures.each (byte / 16) l (omega (arith, fits)) hl
    ∙ ap (λ (x : ℕ). times x (byte / 16)) (c.each_by_16.ensures l hl))
    ∙ by_eight_bits f byte (omega arith) fits)
