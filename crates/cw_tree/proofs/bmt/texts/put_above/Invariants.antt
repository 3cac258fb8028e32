use Rattle.std.proofs.Common.{◌≤◌, ◌++◌, length, drop}
use Rattle.std.specs.Prelude.{option_map}
use Rattle.cw_tree.specs.Tree.{way_from}
use Rattle.cw_tree.proofs.WayLaws.{OnWay}
use Rattle.cw_tree.proofs.bmt.texts.put_above.Given as goal

abbrev pub invariant-up : goal.invariant-up
invariant-up g l =
    let hash = g.H.Hasher.digest_of in
    let content = g.H.Digest.Digest.content in
    record {
      within : l.used ≤ length l.siblings;
      on_way : OnWay hash content l.count l.width l.at l.node (drop l.used l.siblings)
          (λ above. l.texts.items ++ above)
          (option_map (λ above. l.fn.texts.items ++ above)
          (way_from hash content l.fn.count l.fn.count l.fn.count l.fn.index l.fn.leaf
          l.siblings));
    }

abbrev pub decreases-up : goal.decreases-up
decreases-up g l = l.width
