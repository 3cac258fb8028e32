use Rattle.std.proofs.Common.{◌≡◌, Option, Some, sym, subst, ◌∙◌}
use Rattle.std.specs.BTreeMap.{Updates}
use Rattle.cw_types.specs.Block.{Block}
use Rattle.hail_world.specs.Known.{digest_cmp}
use Rattle.hail_world.proofs.Colliding.{put_anew, there_already}
use Rattle.hail_world.proofs.blocks.KnownBlocks.put_first.Goals as goal

pub returns-then-contains_key-clause-ok : goal.returns-then-contains_key-clause-ok
returns-then-contains_key-clause-ok c = λ q.
    there_already c.args.self.now.by_digest c.args.digest c.args.block.now
    (sym c.contains_key.ensures ∙ c.if-contains_key.true) q

pub returns-clause-ok : goal.returns-clause-ok
returns-clause-ok c = λ q.
    put_anew c.args.self.now.by_digest c.insert.new.self c.args.digest c.args.block.now
    (sym c.contains_key.ensures ∙ c.if-contains_key.false)
    (subst
    (λ (b : Block). Updates digest_cmp c.args.self.now.by_digest c.insert.new.self c.args.digest
    (Some b))
    c.in_ok-copy.ensures c.in_ok-insert.ensures.updates)
    q
