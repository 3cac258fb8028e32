-- What becomes of a chunk that checks.
use Rattle.std.specs.Prelude.{ℕ, List}
use Rattle.sha2.specs.Sha256.{sha256}
use Rattle.cw_base.specs.declared.hash.Digest32.{Digest32}
use Rattle.cw_coding.specs.Checked.{Checked}
use Rattle.cw_tree.specs.Chunks.{Piece}

-- the hash of the program
abbrev pub hash : List ℕ → Digest32
hash bytes = record { 0 = sha256 bytes }

-- a chunk that was checked under a root at its own index
abbrev pub checked_under : Digest32 → Piece Digest32 → Checked Digest32
checked_under root p =
    record { root = root; shard = p.shard; index = p.index; digest = hash p.shard }
