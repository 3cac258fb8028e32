-- What an event brings.
use Rattle.std.specs.Prelude.{[], ℕ, ◌&&◌, ◌++◌, ◌==◌, ◌∷◌, Bool, false, if◌then◌else◌, not, position}
use Rattle.std.specs.List.{list_any}
use Rattle.std.specs.Option.{option_map_or}
use Rattle.cw_types.specs.declared.commitment.Commitment.{Commitment}
use Rattle.cw_types.specs.declared.event.Event.{Event}
use Rattle.cw_types.specs.declared.message.Message.{Message}
use Rattle.cw_types.specs.Epochs.{Epochs, is_member}
use Rattle.cw_types.specs.Votes.{vote_epoch, well_formed}
use Rattle.cw_types.specs.declared.vote.Vote.{Vote}
use Rattle.cw_rules.specs.Accepted.{Came, Row, is_chunk_of, same_part}
use Rattle.cw_rules.specs.Rules.{Chunk, Rules}
use Rattle.voter.specs.Known.{Known}

-- the rules take the chunk, and it didn't come before
abbrev pub is_new_row : Rules → Came → Commitment → Chunk → Bool
is_new_row r came c x = is_chunk_of r c x && not (list_any (same_part (Row c x)) came.parts)

-- the event brings such a chunk
abbrev pub brings_row : Rules → Came → Event → Bool
brings_row r came (Event.Deliver (Message.Shard c x)) = is_new_row r came c x
brings_row r came _ = false

-- a vote that may be accepted of that signer
abbrev pub is_acceptable : Rules → (ℕ → Vote → Bool) → ℕ → Vote → Bool
is_acceptable r signed i v = is_member r.epochs (vote_epoch v) i && well_formed v && signed i v

-- it is the member's place in the list of some epoch
abbrev pub is_own_place : Epochs → ℕ → ℕ → Bool
is_own_place x id index = list_any
    (λ list. option_map_or (λ at. at == index) (position (λ j. j == id) list) false) x.lists

-- the tally once a chunk of that index came: it is told of it where it is the member's own
abbrev pub with_row : Epochs → ℕ → Known → Commitment → ℕ → Known
with_row x id t c index = record {
  epochs = t.epochs;
  id = t.id;
  notes = t.notes;
  ballots = t.ballots;
  own = t.own
      ++ (if is_own_place x id index then record { commitment = c; index = index } ∷ [] else []);
}
