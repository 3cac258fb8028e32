use Rattle.std.proofs.Common.{arith}
use Rattle.cw_tree.proofs.WidthLaws.{shard_len-even, shard_len-some, shard_len-narrow, shard_len-covers, product_fits}
use Rattle.cw_tree.proofs.width.canonical_shard_len.Goals as goal

pub returns-clause-even : goal.returns-clause-even
returns-clause-even c = rw c.shard_len_of.ensures (shard_len-even c.args.length c.args.k)

pub returns-clause-positive : goal.returns-clause-positive
returns-clause-positive c =
    rw c.shard_len_of.ensures (shard_len-some c.args.length c.args.k c.requires.some)

pub returns-clause-narrow : goal.returns-clause-narrow
returns-clause-narrow c =
    omega (arith, c.shard_len_of.ensures, shard_len-narrow c.args.length c.args.k c.requires.some)

pub returns-clause-covers : goal.returns-clause-covers
returns-clause-covers c =
    rw c.shard_len_of.ensures (shard_len-covers c.args.length c.args.k c.requires.some)

pub returns-clause-fits : goal.returns-clause-fits
returns-clause-fits c =
    product_fits c.args.k c.shard_len_of.result (omega arith)
    (omega (arith, c.shard_len_of.ensures, shard_len-narrow c.args.length c.args.k c.requires.some))
