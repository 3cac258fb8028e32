use Rattle.std.proofs.Common.{arith}
use Rattle.shards.proofs.Decoded.{all_bytes}
use Rattle.cw_archive.proofs.checks.are_bytes.Goals as goal

pub returns : goal.returns
returns c = all_bytes c.args.shard.now (λ i. let fits = c.type_inv.shard i in omega arith)
