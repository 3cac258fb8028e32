use Rattle.std.proofs.Common.{length, subst, sym, ◌<◌, List}
use Rattle.shards.proofs.BlockLemmas.{entries_there}
use Rattle.cw_rules.specs.Rules.{Chunk}
use Rattle.shards.proofs.block.BlockChunks.by_index.Goals as goal

pub returns-clause-some : goal.returns-clause-some
returns-clause-some c = λ some.
    entries_there c.self.inside.chunks.entries c.self.inside.came.items
    (subst (λ (xs : List Chunk). 0 < length xs) (sym c.self.view_is) some)
