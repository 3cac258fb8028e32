-- The blocks that are known, and the clash that one more brings.
use Rattle.std.specs.Prelude.{[], ℕ, ◌++◌, ◌∷◌, ◌≡◌, List, None, Option, Some, filter_map, find, if◌then◌else◌, option_and_then, option_map}
use Rattle.std.specs.BTreeMap.{get}
use Rattle.std.specs.Cmp.Lexicographic.{slice_cmp}
use Rattle.std.specs.Ordering.{nat_cmp}
use Rattle.std.specs.declared.cmp.Ordering.{Ordering}
use Rattle.cw_base.specs.declared.hash.Digest32.{Digest32}
use Rattle.cw_types.specs.Block.{Block}
use Rattle.cw_types.specs.Same.{same_block}
use Rattle.cw_types.specs.declared.note.Note.{Note}
use Rattle.cw_rules.specs.Chains.{blocks_of, collides, noted_block}
use Rattle.cw_rules.specs.Reached.{In}
use Rattle.cw_rules.specs.Rules.{Rules, digest, genesis}
use Rattle.cw_rules.specs.World.{World}
use Rattle.hail_world.specs.declared.blocks.KnownBlocks.{KnownBlocks}
use Rattle.hail_world.specs.Runs.{encoded}

-- the order of digests: byte by byte
abbrev pub digest_cmp : Digest32 → Digest32 → Ordering
digest_cmp a b = slice_cmp nat_cmp a.0 b.0

-- the blocks that notes are of
abbrev pub blocks_in : List Note → List Block
blocks_in notes = filter_map noted_block notes

-- each of these blocks is known under its digest, and no other is
pub record AreKnown (r : Rules) (known : KnownBlocks) (blocks : List Block) : Type 0 where
  pub each : (b : Block) → In b blocks → get digest_cmp known.by_digest (digest r b) ≡ Some b
  pub only : (d : Digest32) (b : Block) → get digest_cmp known.by_digest d ≡ Some b
      → (digest r b ≡ d) × In b blocks

-- so are genesis and the blocks that are noted in a world
abbrev pub Knows : Rules → KnownBlocks → World → Type 0
Knows r known w = AreKnown r known (genesis r ∷ blocks_of w.members)

-- the block that is found, where it is another
abbrev pub other : Block → Option Block → Option Block
other b found = option_and_then (λ a. if same_block a b then None else Some a) found

-- the first of these blocks that the block of a note collides with, and that block
abbrev pub clash_with : Rules → List Block → Note → Option (Block × Block)
clash_with r blocks note =
    option_and_then (λ b. option_map (λ a. (a, b)) (find (collides r b) blocks)) (noted_block note)

-- the clash that a note brings; where there is none, its block is known with the others
abbrev pub Takes : Rules → List Block → Note → KnownBlocks → Option (List ℕ × List ℕ) → Type 0
Takes r blocks note known clash =
    (clash ≡ option_map (encoded r) (clash_with r blocks note))
    × (clash ≡ None → AreKnown r known (blocks ++ blocks_in (note ∷ [])))
