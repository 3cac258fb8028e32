use Rattle.std.proofs.Common.{◌++◌, ap, ◌∙◌}
use Rattle.std.proofs.lemmas.Result.{on_ok_weaker}
use Rattle.rs_code.specs.Coefficients.{symbol_through}
use Rattle.rs_code.specs.Rows.{code_row, row_through}
use Rattle.rs_code.proofs.RowBytes.{recovery_rows}
use Rattle.rs_code.proofs.RowFronts.{unchanged}
use Rattle.rs_code.proofs.recovery.add_recoveries_here.Goals as goal

pub returns-in_err-recoveries-clause-err : goal.returns-in_err-recoveries-clause-err
returns-in_err-recoveries-clause-err c =
    unchanged c.from_residual.result c.args.rows.now.items

pub returns-in_err-basis-clause-err : goal.returns-in_err-basis-clause-err
returns-in_err-basis-clause-err c =
    unchanged c.from_residual-in_err-basis.result c.args.rows.now.items

pub returns-clause-ok : goal.returns-clause-ok
unfolding row_through symbol_through
returns-clause-ok c =
    on_ok_weaker c.put_whole_rows-done.result
    (λ e. e
    ∙ ap (λ rows. c.args.rows.now.items ++ rows)
    (recovery_rows _ _ _ _ _ _ _ c.in_ok-basis.ensures.count c.in_ok-basis.ensures.each
    c.deref.ensures.value c.in_ok-recoveries.ensures.count c.in_ok-recoveries.ensures.each))
    c.put_whole_rows-done.ensures.ok

pub returns-clause-err : goal.returns-clause-err
returns-clause-err c = c.put_whole_rows-done.ensures.err

pub returns-then-are_many-clause-ok : goal.returns-then-are_many-clause-ok
unfolding code_row
returns-then-are_many-clause-ok c = c.put_whole_rows.ensures.ok
