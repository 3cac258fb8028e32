-- The proposals of each view, in place of a search through those of all.
use Rattle.std.specs.Prelude.{[], ℕ, ◌&&◌, ◌<◌, ◌==◌, ◌≡◌, Bool, List, Some, Vec, filter, true, vec_capacity, vec_len}
use Rattle.std.specs.Map.{lookup}
use Rattle.std.specs.Option.{is_some, option_map_or}
use Rattle.std.specs.declared.alloc.Global.{Global}
use Rattle.cw_types.specs.Same.{same_proposal}
use Rattle.cw_types.specs.declared.vote.Proposal.{Proposal}
use Rattle.note_scans.specs.Keys.{in_view, same_key}
use Rattle.note_scans.specs.declared.key.VoteKey.{VoteKey}
use Rattle.voter.specs.Lineup.{without_repeats}

-- the proposal is of that view of that epoch
abbrev pub is_in : ℕ → ℕ → Proposal → Bool
is_in epoch view p = (p.epoch == epoch) && (p.view == view)

-- those that the map has at a key
abbrev pub listed_at : VoteKey → List (VoteKey × Vec Proposal Global) → List Proposal
listed_at key entries = option_map_or (λ l. l.items) (lookup (same_key key) entries) []

-- a map has the proposals of each view, each once, in the order in which they are first named
abbrev pub HasViews : List Proposal → List (VoteKey × Vec Proposal Global) → Type 0
HasViews named entries =
    (epoch view : ℕ) → listed_at (in_view 9 epoch view) entries
    ≡ filter (is_in epoch view) (without_repeats same_proposal named)

-- and has room for one more at a key
abbrev pub HasRoomAt : VoteKey → List (VoteKey × Vec Proposal Global) → Type 0
HasRoomAt key entries =
    (l : Vec Proposal Global) → lookup (same_key key) entries ≡ Some l
    → vec_len l < vec_capacity l

-- the map has the key
abbrev pub HasKey : VoteKey → List (VoteKey × Vec Proposal Global) → Type 0
HasKey key entries = is_some (lookup (same_key key) entries) ≡ true
