use Rattle.std.proofs.Common.{ℕ, arith}
use Rattle.std.proofs.lemmas.List.{length-take, length-drop}
use Rattle.std.proofs.lemmas.Result.{err_from_is_err_and}
use Rattle.hail_report.proofs.Pieces.{piece_more, piece_last}
use Rattle.hail_report.proofs.reading.write_all.Goals as goal

pub returns-in_err-at-clause-err : goal.returns-in_err-at-clause-err
returns-in_err-at-clause-err g c =
    let p = err_from_is_err_and c.from_residual.result c.from_residual.ensures.1 in
    rw p.1 (piece_last _ _ _ _ c.pieces.at c.pieces.invariant.wrote c.in_err-at.ensures.bytes)

pub pieces-preserved : goal.pieces-preserved
pieces-preserved g c =
    let bound = c.in_ok-at.ensures.bound.0 in
    record {
      wrote =
          piece_more _ _ _ _ c.pieces.at c.in_ok-at.field-0 c.pieces.invariant.wrote
          c.in_ok-at.ensures.bytes;
      within =
          omega (arith, bound, length-take {A = ℕ}, length-drop {A = ℕ}, c.pieces.invariant.within);
      later = omega (arith, c.pieces.invariant.later, c.in_ok-at.ensures.cause.later);
    }
