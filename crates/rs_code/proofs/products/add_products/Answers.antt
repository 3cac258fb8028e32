use Rattle.std.proofs.Common.{get_or, bit_xor, sym, ap, ◌∙◌, arith}
use Rattle.rs_code.proofs.ProductTables.{by_tables, by_nothing}
use Rattle.rs_code.proofs.products.add_products.Goals as goal

pub returns-then-factor-eq0-clause-each : goal.returns-then-factor-eq0-clause-each
returns-then-factor-eq0-clause-each c = λ p g h.
    sym (by_nothing (get_or c.args.sums.now p 0) c.args.factor (get_or c.args.symbols.now p 0)
    (omega arith))

pub returns-clause-each : goal.returns-clause-each
returns-clause-each c = λ p g h.
    c.add_by_tables.ensures.each p g h
    ∙ ap (bit_xor (get_or c.args.sums.now p 0))
    (by_tables c.spread.new.table c.spread-2.new.table c.args.factor c.by_256.result
    (get_or c.args.symbols.now p 0) c.ranges.factor.fits (omega (arith, c.type_inv.symbols p))
    c.by_256.ensures c.spread.ensures.each c.spread-2.ensures.each)
