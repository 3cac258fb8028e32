use Rattle.std.proofs.Common.{◌≡◌, ◌<◌, ◌≤◌, length, ap, arith}
use Rattle.cw_tree.specs.Tree.{paired}
use Rattle.cw_tree.proofs.TreeRoots.{length-paired}
use Rattle.cw_tree.proofs.TreeLaws.{leads_up, levels_done, levels_more}
use Rattle.cw_tree.proofs.bmt.tree.levels_over.Goals as goal

pub up-smaller : goal.up-smaller
up-smaller g c =
    let hash = g.H.Hasher.digest_of in
    let content = g.H.Digest.Digest.content in
    let is : c.in_ok-above.above ≡ paired hash content c.up.level =
    rw c.as_slice.ensures at c.in_ok-above.ensures in
    omega (arith, ap length is, length-paired hash content c.up.level, c.len.ensures)

pub up-preserved : goal.up-preserved
up-preserved g c =
    let hash = g.H.Hasher.digest_of in
    let content = g.H.Digest.Digest.content in
    let is : c.in_ok-above.above ≡ paired hash content c.up.level =
    rw c.as_slice.ensures at c.in_ok-above.ensures in
    let long : 1 < length c.up.level = omega (arith, c.len.ensures) in (
      leads_up hash content c.up.level _ _ long is c.up.invariant.0,
      levels_more hash content _ c.up.level _ c.up.levels _ long is c.in_ok-push.ensures.ok
          c.up.invariant.1,
    )

pub returns-clause-levels : goal.returns-clause-levels
returns-clause-levels g c =
    let short : length c.up.level ≤ 1 = omega (arith, c.len.ensures) in
    levels_done g.H.Hasher.digest_of g.H.Digest.Digest.content _ c.up.level c.up.levels short
    c.up.invariant.1
