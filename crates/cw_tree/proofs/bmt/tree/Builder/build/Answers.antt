use Rattle.std.proofs.Common.{◌≡◌, List, length, ap, subst, arith}
use Rattle.cw_tree.specs.Tree.{AreLevels, leaves_from}
use Rattle.cw_tree.proofs.TreeRoots.{length-leaves}
use Rattle.cw_tree.proofs.TreeLaws.{root_over}
use Rattle.cw_tree.proofs.bmt.tree.Builder.build.Goals as goal

pub levels_over-requires-clause-some : goal.levels_over-requires-clause-some
levels_over-requires-clause-some g c κs within =
    let hash = g.H.Hasher.digest_of in
    let content = g.H.Digest.Digest.content in
    let is : c.in_ok-leaves.leaves ≡ leaves_from hash content 0 c.self.inside.digests =
    rw c.as_slice.ensures at c.in_ok-leaves.ensures in
    omega (
      arith,
      ap length is,
      length-leaves hash content 0 c.self.inside.digests,
      ap length c.self.view_is,
      c.requires.some,
    )

pub invariant_of-result : goal.invariant_of-result
invariant_of-result g c =
    let hash = g.H.Hasher.digest_of in
    let content = g.H.Digest.Digest.content in
    let is : c.in_ok-leaves.leaves ≡ leaves_from hash content 0 c.self.inside.digests =
    rw c.as_slice.ensures at c.in_ok-leaves.ensures in (
      root_over hash content _ _ _ _ is c.in_ok-levels.ensures.top
          (rw c.len-count.ensures at c.rooted_of.ensures),
      subst (λ (xs : List _). AreLevels hash content xs c.in_ok-levels.levels) is
          c.in_ok-levels.ensures.levels,
      c.self.invariant,
    )
