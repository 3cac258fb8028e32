-- A marshal as its node sees it: all but its log.
use Rattle.std.specs.Prelude.{ℕ, ◌++◌, ◌∷◌, [], Bool, List, true, flat_map}
use Rattle.cw_base.specs.declared.hash.Digest32.{Digest32}
use Rattle.cw_types.specs.Epochs.{Epochs}
use Rattle.cw_types.specs.declared.note.Note.{Note}
use Rattle.cw_rules.specs.Accepted.{State}
use Rattle.cw_rules.specs.Rules.{Rules}
use Rattle.cw_rules.specs.Step.{Tickets, nothing_came}
use Rattle.cw_rules_coded.specs.Coded.{coded}
use Rattle.marshal.specs.Stored as marshal

-- the committees and the backlog, the notes of each frame on the disk, those that wait behind them
-- for a commit, the heights handed out and the tickets since the start, and whether the disk is in
-- doubt
pub record Store : Type 0 where
  pub epochs : Epochs
  pub backlog : ℕ
  pub frames : List (List Note)
  pub staged : List Note
  pub given : List ℕ
  pub tickets : Tickets
  pub failed : Bool

-- a marshal as the store of a node
abbrev pub store_of : {D : Type 0} → marshal.Stored D → Store
store_of s = record {
  epochs = s.epochs;
  backlog = s.backlog;
  frames = s.frames;
  staged = s.staged;
  given = s.given;
  tickets = s.tickets;
  failed = s.failed;
}

-- all notes, with those that wait
abbrev pub stored_notes : Store → List Note
stored_notes s = flat_map (λ frame. frame) s.frames ++ s.staged

-- the rules by which a store answers. None of its answers asks for the application
abbrev pub stored_rules : (List ℕ → Digest32) → Store → Rules
stored_rules hash s = coded hash s.epochs s.backlog (λ b a. true)

-- what the rules ask about, but for what came
abbrev pub stored_state : Store → State
stored_state s = record { notes = stored_notes s; came = nothing_came; given = s.given }

-- one more note that waits
abbrev pub with_staged : Store → Note → Store
with_staged s note = record s { staged = s.staged ++ note ∷ [] }
