-- When the bytes of a block tell it, and what a script may bring in.
use Rattle.std.specs.Prelude.{ℕ, ⊤, ◌<◌, ◌^◌, ◌≡◌, ◌≤◌, List, Some, map}
use Rattle.cw_base.specs.Counts.{Counts}
use Rattle.cw_types.specs.Block.{Block}
use Rattle.cw_types.specs.Values.{IsBlock, IsDigest, IsPayload}
use Rattle.cw_rules.specs.Coding.{AreBytes}
use Rattle.cw_rules.specs.Rules.{Chunk, Rules, block_of}
use Rattle.cw_rules.specs.World.{Ask, Cut, Do, Fault, Faulty, Line, Offer, Propose, Raw}

-- the bytes of a block that can be written tell it
pub record TellsBlocks (r : Rules) : Type 0 where
  -- two such blocks of the same bytes are one
  pub blocks : (a b : Block) → IsBlock a → IsBlock b → r.block_bytes a ≡ r.block_bytes b → a ≡ b
  -- what chunks show is such a block
  pub shown : (x : Counts) (chunks : List Chunk) (b : Block) → block_of r x chunks ≡ Some b
      → IsBlock b
  -- digests and roots have thirty-two bytes
  pub digests : (bytes : List ℕ) → IsDigest (r.hash bytes)
  pub roots : (rows : List (List ℕ)) → IsDigest (r.root (map r.hash rows))
  -- a member's number has two bytes
  pub members : r.epochs.total ≤ 65535

-- a payload that is asked to be proposed fits in a block
abbrev pub FitsAsk : Ask → Type 0
FitsAsk (Propose payload) = IsPayload payload
FitsAsk _ = ⊤

-- a block that is offered has a view of eight bytes, and a payload that fits; raw bytes are bytes
abbrev pub FitsFault : Fault → Type 0
FitsFault (Offer view payload) = (view < 2 ^ 64) × IsPayload payload
FitsFault (Raw bytes) = AreBytes bytes
FitsFault _ = ⊤

-- what the line brings in can be written
abbrev pub FitsLine : Line → Type 0
FitsLine (Do i ask) = FitsAsk ask
FitsLine (Cut call cut fill i ask) = FitsAsk ask
FitsLine (Faulty i fault) = FitsFault fault
FitsLine _ = ⊤
