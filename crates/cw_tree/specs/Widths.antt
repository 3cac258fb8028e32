-- How wide the shards of a text are.
use Rattle.std.specs.Prelude.{ℕ, ◌+◌, ◌-◌, ◌/◌, ◌%◌}

-- the width of k shards of a text of n bytes: room for four more, rounded up, and raised by one
-- where odd
unfoldable pub shard_len : (n k : ℕ) → ℕ
shard_len n k = let w = (n + 4 + (k - 1)) / k in w + w % 2
