-- Which views have ended, and for whom.
use Rattle.std.specs.Prelude.{ℕ, ⊤, ◌≡◌, List, Some, filter_map}
use Rattle.cw_types.specs.declared.note.Note.{Note}
use Rattle.cw_types.specs.declared.vote.Vote.TheVariants.{Nullify}
use Rattle.cw_rules.specs.Notes.{ended, epoch_of, view_of}
use Rattle.cw_rules.specs.Reached.{In}
use Rattle.cw_rules.specs.Step.{Member, member_notes}
use Rattle.cw_rules.specs.World.{World, member_at}

-- a vote to nullify is one for the view that the member is in
abbrev pub IsOfView : List Note → Note → Type 0
IsOfView before (Note.Vote (Nullify epoch view)) =
    (epoch ≡ epoch_of before) × (view ≡ view_of before epoch)
IsOfView before _ = ⊤

-- the view of the epoch has ended for some honest member
pub record EndedForSome (w : World) (epoch view : ℕ) : Type 0 where
  pub number : ℕ
  pub member : Member
  pub there : member_at w number ≡ Some member
  pub noted : In view (filter_map (ended epoch) (member_notes member))
