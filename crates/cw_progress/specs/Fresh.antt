-- What starts and deliveries leave of honest members.
use Rattle.std.specs.Prelude.{ℕ, ◌++◌, ◌≡◌, ◌≤◌, IsTrue, List, Some, []}
use Rattle.cw_types.specs.declared.note.Note.{Note}
use Rattle.cw_rules.specs.Held.{greatest_floor, greatest_prune, next, resume}
use Rattle.cw_rules.specs.Step.{Member, member_notes, nothing_came, state_of}
use Rattle.cw_rules.specs.World.{World, member_at}

-- the honest member is live, with these notes, nothing has come to it since its start, and it hands
-- out from where its notes let a start begin
pub record IsFresh (w : World) (i : ℕ) (notes : List Note) : Type 0 where
  pub member : Member
  pub there : member_at w i ≡ Some member
  pub live : IsTrue member.live
  pub nothing : member.came ≡ nothing_came
  pub same : member_notes member ≡ notes
  pub begins : resume notes ≤ next (state_of member)

-- the member is live, has what it noted and maybe more, and let no block go; where it wished for no
-- floor, it gave up no height and wishes for none
pub record IsKept (w : World) (i : ℕ) (before : Member) : Type 0 where
  pub member : Member
  pub there : member_at w i ≡ Some member
  pub live : IsTrue member.live
  pub more : List Note
  pub notes : member_notes member ≡ member_notes before ++ more
  pub prune : greatest_prune (member_notes member) ≡ greatest_prune (member_notes before)
  pub floor : before.came.wishes ≡ []
      → greatest_floor (member_notes member) ≡ greatest_floor (member_notes before)
  pub wishless : before.came.wishes ≡ [] → member.came.wishes ≡ []
