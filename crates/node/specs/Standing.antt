-- When what a node holds stands for a member of the rules.
use Rattle.std.specs.Prelude.{◌≡◌, ℕ, ◌<◌, ◌⊎◌, Bool, List, None, Some, false, length, map, []}
use Rattle.std.specs.List.{last_or}
use Rattle.cw_base.specs.declared.hash.Digest32.{Digest32}
use Rattle.cw_types.specs.Block.{Block}
use Rattle.cw_types.specs.declared.commitment.Commitment.{Commitment}
use Rattle.cw_rules.specs.Accepted.{Came, State, first_some}
use Rattle.cw_rules.specs.Held.{shown}
use Rattle.cw_rules.specs.Owed.{block_owed, named_commitments}
use Rattle.cw_rules.specs.Reached.{In}
use Rattle.cw_rules.specs.Rules.{Rules}
use Rattle.shards.specs.Kept as kept
use Rattle.shards.specs.Standing as shards
use Rattle.voter.specs.Standing as voter
use Rattle.node.specs.Holding.{Holding, came_of, count_rows, cut_rules, own_state, rules_of, shown_under}
use Rattle.node.specs.Leading.{IsLedBy}
use Rattle.node.specs.Store.{stored_notes}
use Rattle.node.specs.declared.leads.Led.{Led}

-- The tally and the chunks that are kept stand for one member, whose notes are those of the store;
-- each arrival has the commitment of its part, and as many chunks came as are kept; and what chunks
-- showed is what those that are kept show.
pub record PartsStand {D A : Type 0} (hash : List ℕ → Digest32) (accepts : A → Block → Block → Bool)
    (h : Holding D A) : Type 0 where
  pub epochs : h.store.epochs ≡ h.epochs
  pub backlog : h.store.backlog ≡ h.backlog
  pub running : h.store.failed ≡ false
  pub id : h.tally.id ≡ h.id
  pub tally : voter.IsTallyOf hash h.tally (rules_of hash accepts h) (own_state h)
  pub shards : shards.StandsFor hash h.shards (cut_rules hash accepts h) (came_of h)
  pub rows : count_rows h.arrivals ≡ length h.shards.kept
  pub named : named_commitments (rules_of hash accepts h) (own_state h)
      ≡ map (λ a. a.commitment) h.arrivals
  pub shown : (c : Commitment) → 0 < c.config.minimum
      → shown (kept.chunk_rules hash h.shards.epochs) (kept.kept_came h.shards.kept) c
      ≡ first_some (shown_under c) h.shown

-- no block is owed
abbrev pub OwesNoBlock : Rules → State → Type 0
OwesNoBlock r s = first_some (block_owed r s) (named_commitments r s) ≡ None

-- no block is owed under a commitment that came, but for the last
abbrev pub OwesLast : Rules → State → Type 0
OwesLast r s =
    (c : Commitment) → In c (named_commitments r s)
    → (last_or None (named_commitments r s) ≡ Some c) ⊎ (block_owed r s c ≡ None)

-- What a node holds between its calls, unless a step was refused: it stands for its member, nothing
-- waits for a commit, and no block is owed.
pub record IsReady {D A : Type 0} (hash : List ℕ → Digest32) (accepts : A → Block → Block → Bool)
    (h : Holding D A) : Type 0 where
  pub stands : PartsStand hash accepts h
  pub quiet : h.store.staged ≡ []
  pub rests : OwesNoBlock (rules_of hash accepts h) (own_state h)

-- what it holds then beside a map of what its notes lead to, which stands for them
pub record IsAwake {D A : Type 0} (hash : List ℕ → Digest32) (accepts : A → Block → Block → Bool)
    (h : Holding D A) (entries : List (Commitment × Led)) : Type 0 where
  pub ready : IsReady hash accepts h
  pub led : IsLedBy (rules_of hash accepts h) (stored_notes h.store) entries

-- what else there is beside what came and how it is kept
pub record IsSameBeside {D A : Type 0} (old new : Holding D A) : Type 0 where
  pub travel : new.travel ≡ old.travel
  pub id : new.id ≡ old.id
  pub epochs : new.epochs ≡ old.epochs
  pub backlog : new.backlog ≡ old.backlog
  pub app : new.app ≡ old.app
  pub store : new.store ≡ old.store
  pub log : new.log ≡ old.log

-- so much has come then, and nothing else changed
pub record HasCome {D A : Type 0} (hash : List ℕ → Digest32) (accepts : A → Block → Block → Bool)
    (came : Came) (old new : Holding D A) : Type 0 where
  pub stands : PartsStand hash accepts new
  pub taken : came_of new ≡ came
  pub same : IsSameBeside old new
