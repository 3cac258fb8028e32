-- What is asked for, and the chunk of a member's own.
use Rattle.std.specs.Prelude.{ℕ, ◌&&◌, ◌==◌, Bool, List, filter, map, not, false}
use Rattle.std.specs.List.{list_any}
use Rattle.std.specs.Option.{option_map_or}
use Rattle.cw_base.specs.Config.{same_counts}
use Rattle.cw_types.specs.Epochs.{place}
use Rattle.cw_types.specs.Same.{same_commitment}
use Rattle.cw_types.specs.declared.commitment.Commitment.{Commitment}
use Rattle.cw_types.specs.declared.event.Out.{Out}
use Rattle.cw_types.specs.declared.message.Message.{Message}
use Rattle.cw_rules.specs.Rules.{Chunk, Rules, config}
use Rattle.cw_rules.specs.Sends.{to_all}

-- a question to all for each of these that isn't among those before
abbrev pub asks : ℕ → List Commitment → List Commitment → List Out
asks id missing before = map (λ c. to_all (Message.Ask id c))
    (filter (λ c. not (list_any (same_commitment c) before)) missing)

-- the chunk stands at the member's own place in that epoch, and is of its config
abbrev pub is_own_row : Rules → ℕ → ℕ → Commitment → Chunk → Bool
is_own_row r id epoch c x = option_map_or (λ at. x.index == at) (place r.epochs epoch id) false
    && same_counts c.config (config r epoch)
