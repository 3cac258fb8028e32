-- The theorem: what a report tells of the blocks that its honest members handed out.
--
-- Each public call that runs a script promises it of the report that it hands back, by its clause
-- `one_chain`: whatever the script loses, repeats, reorders, forges or crashes, and whatever its
-- faulty members do, which are at most f of the n members of each epoch, n above 3f (a script that
-- makes more of them faulty isn't run). No rule of the cluster is needed to read it. That the
-- report is the true one of the script is what the other clauses say (`IsReport` in Reports.antt).
--
-- Of a report, `chain` has the links; `opening` has an entry for the first start of each honest
-- member, and `steps` one for each line of the script; what an entry hands out is, for each block,
-- its height and its digest. H is the hasher, which computes `hash`, and W the way in which blocks
-- travel: the types of the nodes in a report need them, and nothing here depends on them.
use Rattle.std.specs.Prelude.{ℕ, ◌++◌, ◌+◌, ◌≡◌, List, Some, slice_get}
use Rattle.cw_base.specs.declared.hash.Digest32.{Digest32}
use Rattle.cw_types.specs.Block.{Block}
use Rattle.cw_types.specs.Commit.{genesis}
use Rattle.cw_types.specs.Encoding.{block_bytes}
use Rattle.cw_types.specs.declared.event.Handed.{Handed}
use Rattle.cw_rules.specs.Reached.{In}
use Rattle.cw_rules.specs.Report.{Entry}
use Rattle.hail_world.specs.declared.report.Report.{Report}

-- the report tells of one chain
pub record IsOneChain {H W : Type 0} (hash : List ℕ → Digest32)
    (report : Report H W) : Type 0 where
  -- its first link is the first block
  pub begins : slice_get report.chain 0 ≡ Some (genesis hash)
  -- the link after the link h has the height h + 1, and names the digest of the link h as its
  -- parent's
  pub linked : (h : ℕ) (a b : Block) → slice_get report.chain h ≡ Some a
      → slice_get report.chain (h + 1) ≡ Some b
      → (b.height ≡ h + 1) × (b.parent ≡ hash (block_bytes a))
  -- whatever an entry hands out at a height is the link of that height
  pub handed : (e : Entry) (y : Handed) → In e (report.opening ++ report.steps) → In y e.handed
      → (b : Block) × (slice_get report.chain y.height ≡ Some b)
      × (y.digest ≡ hash (block_bytes b))
