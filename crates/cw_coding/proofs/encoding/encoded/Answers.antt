use Rattle.std.proofs.Common.{◌≡◌, ℕ, ◌+◌, ◌*◌, length, sym, ap, ◌∙◌, arith}
use Rattle.cw_base.proofs.Listed.{length-listed}
use Rattle.cw_tree.specs.Widths.{shard_len}
use Rattle.cw_coding.specs.Layout.{row_at}
use Rattle.cw_coding.proofs.LayoutLaws.{rows_long}
use Rattle.cw_coding.proofs.EncodingLaws.{encoding_is}
use Rattle.cw_coding.proofs.encoding.encoded.Goals as goal

pub cut_rows-requires-clause-leaves : goal.cut_rows-requires-clause-leaves
cut_rows-requires-clause-leaves g c κs within =
    let config = c.args.config.now in
    let leaves =
    ap length c.requires.digests
    ∙ length-listed (config.minimum + config.extra)
    (λ i. g.H.Hasher.digest_of (row_at config.minimum c.args.text.now i)) in
    omega (arith, leaves, c.minimum-k.ensures.value, c.extra.ensures.value)

pub cut_rows-requires-clause-rows : goal.cut_rows-requires-clause-rows
cut_rows-requires-clause-rows g c κs within =
    let total : ℕ = c.minimum-k.result + c.extra.result in
    let count : c.args.config.now.minimum + c.args.config.now.extra ≡ total =
    omega (arith, c.minimum-k.ensures.value, c.extra.ensures.value) in
    let width : c.canonical_shard_len-width.result
    ≡ shard_len (length c.args.text.now) c.args.config.now.minimum =
    rw c.minimum-k.ensures.value at c.canonical_shard_len-width.ensures.value in
    rows_long c.args.config.now.minimum c.args.config.now.extra c.args.text.now _ c.requires.rows
    ∙ ap (λ (w : ℕ). (c.args.config.now.minimum + c.args.config.now.extra) * w) (sym width)
    ∙ ap (λ (n : ℕ). n * c.canonical_shard_len-width.result) count

pub returns-clause-encoded : goal.returns-clause-encoded
returns-clause-encoded g c =
    let width : c.canonical_shard_len-width.result
    ≡ shard_len (length c.args.text.now) c.args.config.now.minimum =
    rw c.minimum-k.ensures.value at c.canonical_shard_len-width.ensures.value in
    encoding_is g.H.Hasher.digest_of g.H.Digest.Digest.content c.args.config.now c.args.text.now _
    _ c.canonical_shard_len-width.result c.args.coded.rows.items c.args.coded.tree
    c.in_ok-chunks.chunks.items
    (omega (arith, c.minimum-k.ensures.value, c.extra.ensures.value)) c.requires.encodable width
    c.requires.rows c.requires.digests c.root-root.ensures c.in_ok-chunks.ensures
