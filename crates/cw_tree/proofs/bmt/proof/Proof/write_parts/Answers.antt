use Rattle.std.proofs.Common.{◌∙◌}
use Rattle.cw_tree.proofs.Written.{stays, same_stays, on_err}
use Rattle.cw_tree.proofs.bmt.proof.Proof.write_parts.Goals as goal

pub returns-in_err-put_be32-clause-err : goal.returns-in_err-put_be32-clause-err
returns-in_err-put_be32-clause-err g c =
    on_err c.from_residual.result (same_stays _ _ c.in_err-put_be32.ensures.err)

pub returns-in_err-put_u8-clause-err : goal.returns-in_err-put_u8-clause-err
returns-in_err-put_u8-clause-err g c =
    on_err c.from_residual-in_err-put_u8.result
    (stays _ _ _ (c.in_err-put_u8.ensures.err ∙ c.in_ok-put_be32.ensures.ok))
