-- What it means that notes were written.
use Rattle.std.specs.Prelude.{◌≡◌, ℕ, ◌++◌, [], Bool, List}
use Rattle.std.specs.Option.{option_or}
use Rattle.std.specs.Prelude.{Option}
use Rattle.cw_base.specs.declared.hash.Digest32.{Digest32}
use Rattle.cw_types.specs.Block.{Block}
use Rattle.cw_types.specs.declared.note.Note.{Note}
use Rattle.cw_rules.specs.Accepted.{State, first_some}
use Rattle.cw_rules.specs.Owed.{block_owed, epoch_owed, finalize_owed, floor_owed, named_proposals, notarize_owed}
use Rattle.cw_rules.specs.Rules.{Rules}
use Rattle.cw_rules.specs.Step.{add_frame, with_notes}
use Rattle.node.specs.declared.arrival.Arrival.{Arrival}
use Rattle.node.specs.Holding.{Holding, own_state}
use Rattle.node.specs.Standing.{PartsStand}
use Rattle.node.specs.Store.{Store}

-- the note that is owed of the last cases: a floor, an epoch, a vote
abbrev pub last_owed : Rules → ℕ → State → Option Note
last_owed r id s =
    option_or (first_some (floor_owed r s) s.came.wishes)
    (option_or (epoch_owed r s)
    (option_or (first_some (notarize_owed r id s) (named_proposals s))
    (first_some (finalize_owed r id s) (named_proposals s))))

-- the note of a block that is owed under an arrival's commitment
abbrev pub arrival_owed : Rules → State → Arrival → Option Note
arrival_owed r s a = block_owed r s a.commitment

-- the store with these notes behind those that wait
abbrev pub with_all_staged : Store → List Note → Store
with_all_staged s notes = record s { staged = s.staged ++ notes }

-- these notes were written: the node stands for its member with them, they wait for a commit, and
-- nothing else changed
pub record HasNoted {D A : Type 0} (hash : List ℕ → Digest32) (accepts : A → Block → Block → Bool)
    (notes : List Note) (old new : Holding D A) : Type 0 where
  pub stands : PartsStand hash accepts new
  pub state : own_state new ≡ with_notes (own_state old) notes
  pub store : new.store ≡ with_all_staged old.store notes
  pub travel : new.travel ≡ old.travel
  pub id : new.id ≡ old.id
  pub epochs : new.epochs ≡ old.epochs
  pub backlog : new.backlog ≡ old.backlog
  pub app : new.app ≡ old.app
  pub log : new.log ≡ old.log

-- the store after a commit
abbrev pub committed : Store → Store
committed t = record t { frames = add_frame t.frames t.staged; staged = [] }
