-- The messages that were sent, by number.
use Rattle.std.specs.Prelude.{ℕ, ◌≡◌, List, Option, Some, flat_map, map, option_and_then, slice_get}
use Rattle.cw_rules.specs.Report.{Entry}
use Rattle.cw_rules.specs.World.{Sent}

-- the messages of entries, in order
abbrev pub sent_in : List Entry → List Sent
sent_in entries = flat_map (λ e. e.sent) entries

-- the message at a place of the entry of a number
abbrev pub sent_at : List Entry → ℕ × ℕ → Option Sent
sent_at entries (entry, place) =
    option_and_then (λ e. slice_get e.sent place) (slice_get entries entry)

-- the messages of entries stand at these places, in order
abbrev pub StandAt : List Entry → List (ℕ × ℕ) → Type 0
StandAt entries places = map (sent_at entries) places ≡ map Some (sent_in entries)
