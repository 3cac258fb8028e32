-- What a node holds between its calls, and how the rules see it.
use Rattle.std.specs.Prelude.{ℕ, ◌++◌, ◌∷◌, [], Bool, List, Option, None, Some, option_and_then, drop, filter, is_none, length, map, take, false, if◌then◌else◌}
use Rattle.std.specs.Option.{option_map_or}
use Rattle.cw_base.specs.declared.hash.Digest32.{Digest32}
use Rattle.cw_types.specs.Block.{Block}
use Rattle.cw_types.specs.Epochs.{Epochs}
use Rattle.cw_types.specs.Same.{same_block, same_commitment}
use Rattle.cw_types.specs.declared.commitment.Commitment.{Commitment}
use Rattle.cw_rules.specs.Accepted.{Came, Part, State, Whole}
use Rattle.cw_rules.specs.Rules.{Rules}
use Rattle.cw_rules.specs.Step.{Member}
use Rattle.cw_rules.specs.declared.travel.Travel.{Travel}
use Rattle.cw_rules_coded.specs.Coded.{coded, ruled}
use Rattle.node_disk.specs.Log.{LogState}
use Rattle.shards.specs.Kept.{Gathered, part_of}
use Rattle.shards.specs.declared.pieces.KeptChunk.{KeptChunk}
use Rattle.voter.specs.Known.{Known}
use Rattle.node.specs.State.{NodeState}
use Rattle.node.specs.Store.{Store, stored_notes}
use Rattle.node.specs.declared.arrival.Arrival.{Arrival}
use Rattle.node.specs.declared.arrival.Shown.{Shown}

-- how blocks travel, the member's number, the committees, the backlog, the application, the store
-- and its log, the tally, the chunks that are kept, what chunks and blocks came, in order, the
-- blocks that chunks showed, and the wishes
pub record Holding (D A : Type 0) : Type 0 where
  pub travel : Travel
  pub id : ℕ
  pub epochs : Epochs
  pub backlog : ℕ
  pub app : A
  pub store : Store
  pub log : LogState D
  pub tally : Known
  pub shards : Gathered
  pub arrivals : List Arrival
  pub shown : List Shown
  pub wishes : List Commitment

-- the parts that came: where no whole block did, the next of the chunks that were kept
abbrev pub parts_of : List Arrival → List KeptChunk → List Part
parts_of [] kept = []
parts_of (a ∷ more) kept = option_map_or (λ b. Whole b ∷ parts_of more kept) a.block
    (map part_of (take 1 kept) ++ parts_of more (drop 1 kept))

-- how many chunks came
abbrev pub count_rows : List Arrival → ℕ
count_rows arrivals = length (filter (λ a. is_none a.block) arrivals)

-- what came
abbrev pub came_of : {D A : Type 0} → Holding D A → Came
came_of h = record {
  ballots = h.tally.ballots;
  parts = parts_of h.arrivals h.shards.kept;
  wishes = h.wishes;
}

-- what the rules ask about, of what a node holds
abbrev pub own_state : {D A : Type 0} → Holding D A → State
own_state h = record { notes = stored_notes h.store; came = came_of h; given = h.store.given }

-- the rules that are followed
abbrev pub rules_of : {D A : Type 0} → (List ℕ → Digest32) → (A → Block → Block → Bool)
    → Holding D A → Rules
rules_of hash accepts h = ruled h.travel hash h.epochs h.backlog (accepts h.app)

-- the same for blocks that are cut. Where blocks travel whole no chunk comes by which these differ
abbrev pub cut_rules : {D A : Type 0} → (List ℕ → Digest32) → (A → Block → Block → Bool)
    → Holding D A → Rules
cut_rules hash accepts h = coded hash h.epochs h.backlog (accepts h.app)

-- the member of the rules
abbrev pub member_of : {D A : Type 0} → Bool → Holding D A → Member
member_of live h = record {
  frames = h.store.frames;
  came = came_of h;
  given = h.store.given;
  tickets = h.store.tickets;
  live = live;
}

-- the node that holds this
abbrev pub node_of : {D A : Type 0} → Bool → Holding D A → NodeState D A
node_of live h = record {
  travel = h.travel;
  id = h.id;
  epochs = h.epochs;
  backlog = h.backlog;
  app = h.app;
  member = member_of live h;
  log = h.log;
}

-- the block that chunks of that commitment showed
abbrev pub shown_under : Commitment → Shown → Option Block
shown_under c x = if same_commitment c x.commitment then Some x.block else None

-- the arrival is that block, which came whole
abbrev pub is_whole : Block → Arrival → Bool
is_whole b a = option_map_or (same_block b) a.block false

-- the first with what the second knows. What it doesn't change is who the node is, and the log
abbrev pub knowing : {D A : Type 0} → Holding D A → Holding D A → Holding D A
knowing old new = record old {
  store = new.store;
  tally = new.tally;
  shards = new.shards;
  arrivals = new.arrivals;
  shown = new.shown;
  wishes = new.wishes;
}

-- the block of an arrival that came whole under that commitment
abbrev pub whole_under : Commitment → Arrival → Option Block
whole_under c a = option_and_then (λ b. if same_commitment a.commitment c then Some b else None)
    a.block

-- what a node holds over a store as it starts: its tally knows the notes, and nothing came
abbrev pub begun : {D A : Type 0} → Travel → ℕ → Epochs → ℕ → A → Store → LogState D → Holding D A
begun travel id x backlog app t log = record {
  travel = travel;
  id = id;
  epochs = x;
  backlog = backlog;
  app = app;
  store = t;
  log = log;
  tally = record { epochs = x; id = id; notes = stored_notes t; ballots = []; own = [] };
  shards = record { epochs = x; kept = [] };
  arrivals = [];
  shown = [];
  wishes = [];
}
