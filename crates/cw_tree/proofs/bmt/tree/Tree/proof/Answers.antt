use Rattle.std.proofs.Common.{◌≡◌, ◌<◌, ◌++◌, ◌+◌, drop, length, ap, arith}
use Rattle.cw_tree.specs.Tree.{beside}
use Rattle.cw_tree.proofs.TreeLaws.{next_left, none_left, up_more, up_start, up_within}
use Rattle.cw_tree.proofs.bmt.tree.Tree.proof.Goals as goal

pub loop-level-init : goal.loop-level-init
loop-level-init g c =
    let hash = g.H.Hasher.digest_of in
    let content = g.H.Digest.Digest.content in
    let within : c.args.index < length c.self.inside.digests =
    omega (arith, ap length c.self.view_is, c.requires.within) in
    rw (c.new-siblings.ensures, c.as_slice-level-items.ensures, ← c.self.view_is)
    (up_start hash content c.args.index c.self.inside.digests c.self.inside.levels within
    c.self.invariant.1)

pub put_beside-requires : goal.put_beside-requires
put_beside-requires g c =
    let hash = g.H.Hasher.digest_of in
    let content = g.H.Digest.Digest.content in
    record {
      within =
          rw c.as_slice.ensures
          (up_within hash content c.loop-level.siblings c.loop-level.at c.level-item.result
          (drop (c.loop-level.level-index + 1) c.as_slice-level-items.result.now) _
          (next_left hash content c.loop-level.siblings c.loop-level.at c.loop-level.level-index
          c.as_slice-level-items.result.now c.level-item.result _ c.loop-level-test.true
          c.level-item.is c.loop-level.invariant));
    }

pub loop-level-preserved : goal.loop-level-preserved
loop-level-preserved g c =
    let hash = g.H.Hasher.digest_of in
    let content = g.H.Digest.Digest.content in
    let more : c.put_beside.new.out
    ≡ c.loop-level.siblings ++ beside c.loop-level.at c.level-item.result =
    rw c.as_slice.ensures at c.in_ok-put_beside.ensures in
    up_more hash content c.loop-level.siblings c.put_beside.new.out c.loop-level.at
    c.level-item.result (drop (c.loop-level.level-index + 1) c.as_slice-level-items.result.now)
    _ more
    (next_left hash content c.loop-level.siblings c.loop-level.at c.loop-level.level-index
    c.as_slice-level-items.result.now c.level-item.result _ c.loop-level-test.true
    c.level-item.is c.loop-level.invariant)

pub returns-clause-siblings : goal.returns-clause-siblings
returns-clause-siblings g c =
    none_left g.H.Hasher.digest_of g.H.Digest.Digest.content c.loop-level.siblings c.loop-level.at
    c.loop-level.level-index c.as_slice-level-items.result.now _ c.loop-level-test.false
    c.loop-level.invariant
