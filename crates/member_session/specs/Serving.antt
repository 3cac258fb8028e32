-- A member before and behind its start, as its host sees it.
use Rattle.std.specs.Prelude.{[], List, ℕ, true, ◌≡◌}
use Rattle.cw_base.specs.declared.hash.Digest32.{Digest32}
use Rattle.cw_types.specs.Epochs.{Epochs}
use Rattle.cw_rules.specs.Rules.{Rules}
use Rattle.cw_rules.specs.Step.{Member}
use Rattle.cw_rules.specs.declared.travel.Travel.{Travel}
use Rattle.cw_rules_coded.specs.Coded.{ruled}
use Rattle.node.specs.State.{IsAtWork, NodeState}
use Rattle.node_disk.specs.Host.{HostState, host_state}
use Rattle.node_disk.specs.Memory.{MemoryState, memory_state}

-- a member that hasn't started: its number, its committees, its backlog, and what its file holds
pub record Prepared : Type 0 where
  pub id : ℕ
  pub epochs : Epochs
  pub backlog : ℕ
  pub file : List ℕ

-- a member that has: its number, its committees, its backlog, and the member of the rules
pub record Serving : Type 0 where
  pub id : ℕ
  pub epochs : Epochs
  pub backlog : ℕ
  pub member : Member

-- the rules of a member that accepts every block over every other
abbrev pub accepting : (List ℕ → Digest32) → Travel → Epochs → ℕ → Rules
accepting hash travel epochs backlog = ruled travel hash epochs backlog (λ block parent. true)

-- those by which this one goes
abbrev pub serving_rules : (List ℕ → Digest32) → Travel → Serving → Rules
serving_rules hash travel s = accepting hash travel s.epochs s.backlog

-- what a host sees of a node over a disk whose calls it makes
abbrev pub serving_of : {A : Type 0} → NodeState (HostState MemoryState) A → Serving
serving_of node =
    record { id = node.id; epochs = node.epochs; backlog = node.backlog; member = node.member }

-- a node between two lines: it takes events, and each of its device calls was told
pub record IsServing {A : Type 0} (travel : Travel) (epochs : Epochs)
    (node : NodeState (HostState MemoryState) A) : Type 0 where
  pub travels : node.travel ≡ travel
  pub among : node.epochs ≡ epochs
  pub works : IsAtWork (host_state memory_state) node
  pub told : node.log.disk.waiting ≡ []
