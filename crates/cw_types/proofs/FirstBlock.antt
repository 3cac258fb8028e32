-- The bytes of the first block, in two parts.
use Rattle.std.proofs.Common.{◌≡◌, ℕ, List, [], ◌++◌, append_assoc, append-nil}
use Rattle.cw_base.specs.declared.hash.Digest32.{Digest32}
use Rattle.cw_types.specs.Commit.{genesis, first_context, first_rest}
use Rattle.cw_types.specs.Encoding.{block_bytes, context_bytes}

pub genesis_parts : (hash : List ℕ → Digest32)
    → context_bytes first_context ++ first_rest (hash []) ≡ block_bytes (genesis hash)
unfolding block_bytes
genesis_parts hash = simp (append_assoc, append-nil)
