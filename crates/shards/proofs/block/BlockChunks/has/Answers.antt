use Rattle.std.proofs.Common.{◌∙◌, ap, is_some}
use Rattle.shards.specs.Index.{with_index}
use Rattle.shards.proofs.BlockLemmas.{found_nat}
use Rattle.shards.proofs.block.BlockChunks.has.Goals as goal

pub returns : goal.returns
returns c =
    c.contains_key.ensures
    ∙ ap is_some
    (found_nat c.self.inside.chunks.entries c.args.index
    ∙ (c.self.invariant.found c.args.index ∙ ap (with_index c.args.index) c.self.view_is))
