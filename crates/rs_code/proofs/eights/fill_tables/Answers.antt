use Rattle.std.proofs.Common.{ℕ, get_or, bit_xor, ap, ap₂, ◌∙◌, arith}
use Rattle.rs_code.specs.Field.{times}
use Rattle.rs_code.proofs.LaneLaws.{by_bytes}
use Rattle.rs_code.proofs.eights.fill_tables.Goals as goal

pub returns : goal.returns
returns c = λ upper lower l upper_fits lower_fits hl.
    let f : ℕ = get_or c.args.factors.now l 0 in
    ap₂ bit_xor
    (c.spread-2.ensures.each upper l upper_fits hl
    ∙ ap (λ (x : ℕ). times x upper) (c.each_by_256.ensures l hl))
    (c.spread.ensures.each lower l lower_fits hl)
    ∙ by_bytes f upper lower (omega arith) upper_fits lower_fits
