use Rattle.std.proofs.Common.{ap, sym, ◌∙◌}
use Rattle.cw_types.specs.declared.message.Message.TheVariants as message
use Rattle.cw_types.proofs.message.Message.copy.Goals as goal

pub returns-in_ok-copy-in-Shard : goal.returns-in_ok-copy-in-Shard
returns-in_ok-copy-in-Shard c =
    ap (λ chunk. message.Shard c.in-Shard.commitment chunk) c.in_ok-copy-in-Shard.ensures
    ∙ sym c.in-Shard.is

pub returns-in_ok-copy-in-Cert : goal.returns-in_ok-copy-in-Cert
returns-in_ok-copy-in-Cert c = ap message.Cert c.in_ok-copy-in-Cert.ensures ∙ sym c.in-Cert.is

pub returns-in_ok-copy-in-Block : goal.returns-in_ok-copy-in-Block
returns-in_ok-copy-in-Block c = ap message.Block c.in_ok-copy-in-Block.ensures ∙ sym c.in-Block.is
