use Rattle.std.proofs.Common.{◌∙◌}
use Rattle.cw_tree.proofs.Written.{stays, same_stays, on_err}
use Rattle.cw_tree.proofs.chunk.Chunk.write_parts.Goals as goal

pub returns-in_err-put_varint-clause-err : goal.returns-in_err-put_varint-clause-err
returns-in_err-put_varint-clause-err g c =
    on_err c.from_residual.result (same_stays _ _ c.in_err-put_varint.ensures.err)

pub returns-in_err-put_bytes-clause-err : goal.returns-in_err-put_bytes-clause-err
returns-in_err-put_bytes-clause-err g c =
    on_err c.from_residual-in_err-put_bytes.result
    (stays _ _ _ (c.in_err-put_bytes.ensures.err ∙ c.in_ok-put_varint.ensures.ok))
