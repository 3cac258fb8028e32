use Rattle.std.proofs.Common.{◌∙◌, ap, arith, true}
use Rattle.cw_types.specs.Encoding.{context_bytes}
use Rattle.shards.specs.Enough.{no_committees}
use Rattle.cw_archive.proofs.ShowLemmas.{named_by}
use Rattle.cw_archive.proofs.showing.is_named.Goals as goal

pub returns : goal.returns
returns g c =
    let hash = g.H.Hasher.digest_of in
    let some = c.minimum-some.ensures.some in
    c.has_digests.ensures
    ∙ named_by hash c.args.commitment.now c.args.block.now c.args.text.now c.hash-digest.result
    c.hash-context.result
    (c.coded_laws.ensures.coder hash no_committees 0 (λ b a. true)) (omega arith) c.requires.bytes
    c.requires.rooted
    c.hash-digest.ensures
    (c.hash-context.ensures ∙ ap hash (c.to_bytes.ensures ∙ ap context_bytes c.context.ensures))
