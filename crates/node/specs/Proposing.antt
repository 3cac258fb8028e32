-- The notes of what a leader proposes.
use Rattle.std.specs.Prelude.{Bool, true, List, [], ◌∷◌}
use Rattle.cw_types.specs.declared.note.Note.{Note}
use Rattle.cw_types.specs.declared.vote.Vote.TheVariants.{Notarize}
use Rattle.cw_types.specs.Votes.{is_ordered}
use Rattle.cw_rules.specs.Direct.{proposal_notes}
use Rattle.cw_rules.specs.Rules.{Rules}
use Rattle.node.specs.declared.direct.Proposed.{Proposed}
use Rattle.node.specs.declared.direct.Proposed.TheVariants.{Again, New, Nothing}

-- none, a vote for the parent again, or those of a new block
abbrev pub notes_proposed : Rules → List Note → Proposed → List Note
notes_proposed r notes Nothing = []
notes_proposed r notes (Again p) = Note.Vote (Notarize p) ∷ []
notes_proposed r notes (New p b) = proposal_notes r notes p.epoch p.view p.parent b

-- the proposal that it names is of a view over an earlier one
abbrev pub is_fit : Proposed → Bool
is_fit Nothing = true
is_fit (Again p) = is_ordered p
is_fit (New p b) = is_ordered p
