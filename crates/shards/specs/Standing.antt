-- The member of the rules for whom chunks are kept.
use Rattle.std.specs.Prelude.{◌≡◌, ℕ, List, None, Option, Some, filter_map}
use Rattle.cw_base.specs.declared.hash.Digest32.{Digest32}
use Rattle.cw_types.specs.declared.event.Event.{Event}
use Rattle.cw_types.specs.declared.message.Message.{Message}
use Rattle.cw_rules.specs.Accepted.{Came, Part, Row, Whole}
use Rattle.cw_rules.specs.Rules.{Rules}
use Rattle.cw_rules_coded.specs.Coded.{coded}
use Rattle.shards.specs.Kept.{Gathered}
use Rattle.shards.specs.Verdicts.{gathered_after}
use Rattle.shards.specs.declared.pieces.KeptChunk.{KeptChunk}

-- a chunk that came, as one that is kept. A whole block is none
abbrev pub kept_of : Part → Option KeptChunk
kept_of (Row c x) = Some (record { commitment = c; chunk = x })
kept_of (Whole b) = None

-- the rules are those of the committees and of this hash, and the chunks that came to the member
-- are those that are kept, in order
pub record StandsFor (hash : List ℕ → Digest32) (t : Gathered) (r : Rules)
    (came : Came) : Type 0 where
  pub rules : r ≡ coded hash t.epochs r.backlog r.accepts
  pub rows : filter_map kept_of came.parts ≡ t.kept

-- what is kept after an event: a chunk that is delivered is taken, and nothing else changes what is
-- kept
abbrev pub after_event : Rules → Gathered → Event → Gathered
after_event r t (Event.Deliver (Message.Shard c x)) = gathered_after r t c x
after_event r t _ = t
