use Rattle.std.proofs.Common.{arith}
use Rattle.rs_code.proofs.pairs.add_rows.Goals as goal

pub returns-clause-each : goal.returns-clause-each
returns-clause-each c = λ none j l hj hl.
    c.add_odd_row.ensures.each j l (omega (arith, hj, c.add_row_pairs.ensures.count)) hl
    (c.add_row_pairs.ensures.each none j l hj hl)
