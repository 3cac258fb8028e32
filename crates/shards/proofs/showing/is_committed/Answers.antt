use Rattle.std.proofs.Common.{◌∙◌, ap, arith}
use Rattle.cw_types.specs.Encoding.{context_bytes}
use Rattle.cw_types.specs.Epochs.{config_in}
use Rattle.shards.proofs.Shown.{committed_with}
use Rattle.shards.proofs.showing.is_committed.Goals as goal

pub returns : goal.returns
returns g c =
    let hash = g.H.Hasher.digest_of in
    c.has_parts.ensures
    ∙ committed_with hash c.args.committees.now c.args.commitment.now c.args.block.now
    c.args.text.now c.hash-digest.result c.hash-context.result c.config-config.result
    (c.coder_laws.ensures hash c.args.committees.now) (omega (arith, c.requires.some))
    c.requires.bytes c.requires.rooted
    c.hash-digest.ensures
    (c.hash-context.ensures ∙ ap hash (c.to_bytes.ensures ∙ ap context_bytes c.context-2.ensures))
    (c.config-config.ensures.value
    ∙ ap (λ x. config_in c.args.committees.now x.epoch) c.context.ensures)
