use Rattle.std.proofs.Common.{◌+◌, ◌*◌, length, sym, ◌∙◌, ap, arith}
use Rattle.cw_tree.proofs.WidthLaws.{product_fits}
use Rattle.cw_coding.proofs.LayoutLaws.{length-layout}
use Rattle.cw_coding.proofs.layout.lay_originals.Goals as goal

pub returns-clause-long : goal.returns-clause-long
returns-clause-long c =
    ap length c.in_ok-rows.ensures ∙ length-layout c.args.k c.args.text.now c.requires.some
    ∙ ap (λ w. c.args.k * w) (sym c.canonical_shard_len-width.ensures.value)

pub returns-clause-room : goal.returns-clause-room
returns-clause-room c =
    product_fits (c.args.k + c.args.m) c.canonical_shard_len-width.result
    (omega (arith, c.requires.total)) c.canonical_shard_len-width.ensures.narrow
