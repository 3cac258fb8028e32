use Rattle.cw_types.proofs.FirstBlock.{genesis_parts}
use Rattle.cw_types.proofs.chain.genesis_commitment.Goals as goal

pub returns : goal.returns
returns g c = cc (genesis_parts g.H.Hasher.digest_of)
