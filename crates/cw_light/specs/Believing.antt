-- What a light client may believe, once it was told yes.
use Rattle.std.specs.Prelude.{ℕ, ◌<◌, ◌≡◌, ◌≢◌, ◌⊎◌, List, None, Some, length, slice_get}
use Rattle.std.specs.List.{last_or}
use Rattle.cw_base.specs.declared.hash.Digest32.{Digest32}
use Rattle.cw_types.specs.Block.{Block}
use Rattle.cw_types.specs.Encoding.{block_bytes}
use Rattle.cw_types.specs.Values.{IsBlock}
use Rattle.cw_types.specs.declared.commitment.Commitment.{Commitment}
use Rattle.cw_types.specs.declared.note.Note.{Note}
use Rattle.cw_rules.specs.Chains.{all_notes}
use Rattle.cw_rules.specs.Reached.{In}
use Rattle.cw_rules.specs.Rules.{Rules, digest}
use Rattle.cw_rules.specs.World.{World}

-- the last block of the path has this height and digest, and is the link of its height wherever the
-- links go so high
pub record IsLinkAt (r : Rules) (links path : List Block) (height : ℕ) (d : Digest32) : Type 0 where
  pub block : Block
  pub last : last_or None path ≡ Some block
  pub height_is : block.height ≡ height
  pub digest_is : digest r block ≡ d
  pub link : height < length links → slice_get links height ≡ Some block

-- two different strings of one digest: the bytes of a block of the path, and those of a block that
-- an honest member noted
pub record IsCollision (r : Rules) (w : World) (path : List Block) : Type 0 where
  pub shown : Block
  pub in_path : In shown path
  pub noted : Block
  pub under : Commitment
  pub is_noted : In (Note.Block under noted) (all_notes w)
  pub different : r.block_bytes shown ≢ r.block_bytes noted
  pub one_digest : r.hash (r.block_bytes shown) ≡ r.hash (r.block_bytes noted)

-- what a yes of this height and digest means in a world: the path ends in the link of that height,
-- or two different strings of one digest are at hand
abbrev pub IsBelieved : Rules → World → List Block → List Block → ℕ → Digest32 → Type 0
IsBelieved r w links path height d = IsLinkAt r links path height d ⊎ IsCollision r w path

-- blocks are hashed in their encoding, and each block of the path and each that an honest member
-- noted can be written, as every block can that a program holds
pub record AreWritten (r : Rules) (w : World) (path : List Block) : Type 0 where
  pub encoded : r.block_bytes ≡ block_bytes
  pub shown : (b : Block) → In b path → IsBlock b
  pub noted : (under : Commitment) (b : Block) → In (Note.Block under b) (all_notes w) → IsBlock b
