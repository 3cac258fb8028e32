-- Which chunks of a member's own came, in place of a search.
use Rattle.std.specs.Prelude.{ℕ, ◌≡◌, Bool, List}
use Rattle.std.specs.List.{list_any}
use Rattle.std.specs.Map.{lookup}
use Rattle.std.specs.Option.{is_some}
use Rattle.cw_types.specs.declared.commitment.Commitment.{Commitment}
use Rattle.note_scans.specs.Keys.{same_key}
use Rattle.note_scans.specs.declared.key.VoteKey.{VoteKey}
use Rattle.voter.specs.declared.own.OwnChunk.{OwnChunk}

-- the key of the chunk of a commitment at a place
abbrev pub own_key : Commitment → ℕ → VoteKey
own_key c index = record { kind = 8; epoch = index; view = 0; parent = 0; payload = c }

-- the chunk has that key
abbrev pub is_own_keyed : VoteKey → OwnChunk → Bool
is_own_keyed q x = same_key q (own_key x.commitment x.index)

-- a map has the keys of the chunks that came, and no others
abbrev pub HasOwn : List OwnChunk → List (VoteKey × Bool) → Type 0
HasOwn own entries =
    (q : VoteKey) → is_some (lookup (same_key q) entries) ≡ list_any (is_own_keyed q) own
