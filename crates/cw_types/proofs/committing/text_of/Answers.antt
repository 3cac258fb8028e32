use Rattle.std.proofs.Common.{◌++◌, ◌∙◌, ap, arith, length, subst, sym}
use Rattle.cw_coding.specs.Encoding.{IsEncodable}
use Rattle.cw_types.specs.Encoding.{block_bytes}
use Rattle.cw_types.proofs.Cutting.{block_encodes}
use Rattle.cw_types.proofs.committing.text_of.Goals as goal

pub returns-clause-short : goal.returns-clause-short
returns-clause-short c =
    subst (λ xs. IsEncodable c.config_for-config.result (length xs))
    (sym
    (c.in_ok-write.ensures.ok
    ∙ ap (λ xs. xs ++ block_bytes c.args.block.now) c.new-text.ensures.items))
    (block_encodes c.config_for-config.result c.args.block.now c.config_for-config.ensures.some
    (omega (arith, c.config_for-config.ensures.total, c.ranges.n.fits)) c.block_fits.ensures)
