use Rattle.std.proofs.Common.{arith}
use Rattle.cw_types.proofs.FormatLaws.{read_bytes}
use Rattle.cw_types.proofs.block_text.of_text.Goals as goal

pub returns-clause-bytes : goal.returns-clause-bytes
returns-clause-bytes c =
    read_bytes c.args.bytes.now c.read_whole.result
    (λ i. let fits = c.type_inv.bytes i in omega arith) c.read_whole.ensures
