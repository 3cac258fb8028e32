use Rattle.std.proofs.Common.{◌++◌, ap, ◌∙◌, arith}
use Rattle.std.proofs.lemmas.Result.{on_ok_weaker}
use Rattle.rs_code.specs.Coefficients.{symbol_through}
use Rattle.rs_code.specs.Rows.{code_row, row_through}
use Rattle.rs_code.proofs.RowBytes.{recovery_rows}
use Rattle.rs_code.proofs.RowFronts.{unchanged}
use Rattle.rs_code.proofs.StripeCuts.{stripes_some}
use Rattle.rs_code.proofs.recovery.add_recoveries.Goals as goal

pub put_rows_at-done-requires-clause-some_stripes : goal.put_rows_at-done-requires-clause-some_stripes
put_rows_at-done-requires-clause-some_stripes g c = λ κs h.
    omega (
      arith,
      c.stripe_count-count.ensures,
      stripes_some c.args.width c.pieces.result c.pieces.ensures.positive,
    )

pub returns-in_err-recoveries-clause-err : goal.returns-in_err-recoveries-clause-err
returns-in_err-recoveries-clause-err g c =
    unchanged c.from_residual.result c.args.rows.now.items

pub returns-in_err-basis-clause-err : goal.returns-in_err-basis-clause-err
returns-in_err-basis-clause-err g c =
    unchanged c.from_residual-in_err-basis.result c.args.rows.now.items

pub returns-clause-ok : goal.returns-clause-ok
unfolding row_through symbol_through
returns-clause-ok g c =
    on_ok_weaker c.put_rows_at-done.result
    (λ e. e
    ∙ ap (λ rows. c.args.rows.now.items ++ rows)
    (recovery_rows _ _ _ _ _ _ _ c.in_ok-basis.ensures.count c.in_ok-basis.ensures.each
    c.deref.ensures.value c.in_ok-recoveries.ensures.count c.in_ok-recoveries.ensures.each))
    c.put_rows_at-done.ensures.ok

pub returns-clause-err : goal.returns-clause-err
returns-clause-err g c = c.put_rows_at-done.ensures.err

pub put_rows_at-requires-clause-some_stripes : goal.put_rows_at-requires-clause-some_stripes
put_rows_at-requires-clause-some_stripes g c = λ κs h.
    omega (
      arith,
      c.stripe_count-count.ensures,
      stripes_some c.args.width c.pieces.result c.pieces.ensures.positive,
    )

pub returns-then-are_many-clause-ok : goal.returns-then-are_many-clause-ok
unfolding code_row
returns-then-are_many-clause-ok g c = c.put_rows_at.ensures.ok
