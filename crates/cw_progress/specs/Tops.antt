-- How high an honest member knows the chain to be final.
use Rattle.std.specs.Prelude.{ℕ, List}
use Rattle.cw_types.specs.declared.note.Note.{Note}
use Rattle.cw_rules.specs.Notes.{greatest}
use Rattle.cw_rules.specs.Owed.{final_heights}
use Rattle.cw_rules.specs.Rules.{Rules}

-- the greatest height that a noted finalization with a held block has, 0 where there is none
abbrev pub final_top : Rules → List Note → ℕ
final_top r notes = greatest (final_heights r notes)
