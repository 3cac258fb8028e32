-- Who takes part in a view.
use Rattle.std.specs.Prelude.{ℕ, ◌*◌, ◌+◌, ◌-◌, ◌<◌, ◌^◌, ◌≡◌, ◌≤◌, Bool, IsFalse, IsTrue, List, Some, map}
use Rattle.std.specs.List.{AllByRecursion}
use Rattle.cw_types.specs.declared.vote.Proposal.{Proposal}
use Rattle.cw_types.specs.declared.vote.Vote.TheVariants.{Nullify}
use Rattle.cw_types.specs.Epochs.{is_member, size}
use Rattle.cw_rules.specs.Chains.{Ends, outcome}
use Rattle.cw_rules.specs.Fits.{block_fits}
use Rattle.cw_rules.specs.Notes.{epoch_of, has_vote, view_of}
use Rattle.cw_rules.specs.Owed.{has_voted}
use Rattle.cw_rules.specs.Rules.{Rules}
use Rattle.cw_rules.specs.Step.{Member, member_notes}
use Rattle.cw_rules.specs.World.{Line, World, member_at}
use Rattle.cw_progress.specs.Going.{numbered_members}

-- the honest member is live, one of the epoch's, and in that view of it
pub record IsVoter (r : Rules) (w : World) (epoch view i : ℕ) : Type 0 where
  pub member : Member
  pub there : member_at w i ≡ Some member
  pub live : IsTrue member.live
  pub belongs : IsTrue (is_member r.epochs epoch i)
  pub epoch_is : epoch_of (member_notes member) ≡ epoch
  pub view_is : view_of (member_notes member) epoch ≡ view

-- the honest member is live, one of the proposal's epoch, holds a block that is one for it, and
-- hasn't voted to nullify its view
pub record CanFinalize (r : Rules) (w : World) (p : Proposal) (i : ℕ) : Type 0 where
  pub member : Member
  pub there : member_at w i ≡ Some member
  pub live : IsTrue member.live
  pub belongs : IsTrue (is_member r.epochs p.epoch i)
  pub fits : IsTrue (block_fits r (member_notes member) p)
  pub unclosed : IsFalse (has_vote (member_notes member) (Nullify p.epoch p.view))

-- the views of the first epoch that the honest members are in, by number
abbrev pub views_of : World → List ℕ
views_of w = map (λ at. view_of (member_notes at.1) 0) (numbered_members w)

-- the honest member is live, in the first epoch, and in that view of it
pub record IsInView (w : World) (i view : ℕ) : Type 0 where
  pub member : Member
  pub there : member_at w i ≡ Some member
  pub live : IsTrue member.live
  pub epoch_is : epoch_of (member_notes member) ≡ 0
  pub view_is : view_of (member_notes member) 0 ≡ view

-- such lines alone lead without a clash to a world in which each honest member is in one view
pub record ComeToOneView (r : Rules) (w : World) (allowed : Line → Bool) : Type 0 where
  pub lines : List Line
  pub are : AllByRecursion (λ line. IsTrue (allowed line)) lines
  pub after : World
  pub ends : outcome r w lines ≡ Ends after
  pub view : ℕ
  pub each : (i : ℕ) (m : Member) → member_at w i ≡ Some m → IsInView after i view

-- so, and has cast no vote in that view
pub record IsNewTo (w : World) (i view : ℕ) : Type 0 where
  pub in_view : IsInView w i view
  pub unvoted : IsFalse (has_voted (member_notes in_view.member) 0 view)

-- such lines alone lead without a clash to a world in which each honest member is in that view, and
-- none has voted in it
pub record ComeToView (r : Rules) (w : World) (allowed : Line → Bool) (view : ℕ) : Type 0 where
  pub lines : List Line
  pub are : AllByRecursion (λ line. IsTrue (allowed line)) lines
  pub after : World
  pub ends : outcome r w lines ≡ Ends after
  pub each : (i : ℕ) (m : Member) → member_at w i ≡ Some m → IsNewTo after i view

-- from one world to another nobody comes further than one view on
abbrev pub OneViewOn : World → World → Type 0
OneViewOn w after =
    (top : ℕ)
    → ((i : ℕ) (m : Member) → member_at w i ≡ Some m → view_of (member_notes m) 0 ≤ top)
    → (i : ℕ) (m : Member) → member_at after i ≡ Some m → view_of (member_notes m) 0 ≤ top + 1

-- views are left: from that of each honest member on, twice as many as the first epoch has members
abbrev pub AreViewsLeft : Rules → World → Type 0
AreViewsLeft r w =
    (i : ℕ) (m : Member) → member_at w i ≡ Some m
    → view_of (member_notes m) 0 + 2 * size r.epochs 0 < 2 ^ 64 - 1
