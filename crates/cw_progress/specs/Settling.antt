-- From votes for a proposal to a block that each honest member knows to be final.
use Rattle.std.specs.Prelude.{ℕ, ◌<◌, ◌≡◌, ◌≤◌, Bool, IsFalse, IsTrue, List, Some}
use Rattle.std.specs.List.{AllByRecursion}
use Rattle.cw_types.specs.Block.{Block}
use Rattle.cw_types.specs.Epochs.{is_member}
use Rattle.cw_types.specs.declared.vote.Proposal.{Proposal}
use Rattle.cw_types.specs.declared.vote.Vote.TheVariants.{Finalize, Notarize, Nullify}
use Rattle.cw_rules.specs.Chains.{Ends, outcome}
use Rattle.cw_rules.specs.Held.{held}
use Rattle.cw_rules.specs.Notes.{has_cert, has_certified, has_vote}
use Rattle.cw_rules.specs.Rules.{Rules}
use Rattle.cw_rules.specs.Step.{Member, member_notes, nothing_came}
use Rattle.cw_rules.specs.World.{Line, World, member_at}
use Rattle.cw_progress.specs.Handing.{CanHandUpTo}
use Rattle.cw_progress.specs.Tops.{final_top}
use Rattle.cw_progress.specs.Views.{IsInView, OneViewOn}

-- the honest member is live and in the proposal's view of the first epoch. If it is one of the
-- epoch's, it has voted to notarize the proposal, and hasn't voted to nullify that view
pub record IsBacker (r : Rules) (w : World) (p : Proposal) (i : ℕ) : Type 0 where
  pub in_view : IsInView w i p.view
  pub voted : IsTrue (is_member r.epochs 0 i)
      → IsTrue (has_vote (member_notes in_view.member) (Notarize p))
  pub unclosed : IsTrue (is_member r.epochs 0 i)
      → IsFalse (has_vote (member_notes in_view.member) (Nullify 0 p.view))

-- the honest member is live, has certified the proposal, which it knows to be notarized, and holds
-- its block. If it is one of the epoch's, it has voted to finalize the proposal
pub record HasCertified (r : Rules) (w : World) (p : Proposal) (b : Block) (i : ℕ) : Type 0 where
  pub member : Member
  pub there : member_at w i ≡ Some member
  pub live : IsTrue member.live
  pub notarized : IsTrue (has_cert (member_notes member) (Notarize p))
  pub certified : IsTrue (has_certified (member_notes member) p)
  pub holds : held r (member_notes member) p.payload ≡ Some b
  pub voted : IsTrue (is_member r.epochs p.epoch i)
      → IsTrue (has_vote (member_notes member) (Finalize p))
  -- it knows of no finalization in that view of the epoch or a later one
  pub latest : (q : Proposal) → IsTrue (has_cert (member_notes member) (Finalize q))
      → q.epoch ≡ p.epoch → q.view < p.view

-- such lines alone lead without a clash to a world in which each honest member has certified the
-- proposal. Its block is above all that any of them knew to be final
pub record ComeToCertified (r : Rules) (w : World) (allowed : Line → Bool)
    (p : Proposal) : Type 0 where
  pub lines : List Line
  pub are : AllByRecursion (λ line. IsTrue (allowed line)) lines
  pub after : World
  pub ends : outcome r w lines ≡ Ends after
  pub block : Block
  pub higher : (i : ℕ) (m : Member) → member_at w i ≡ Some m
      → final_top r (member_notes m) < block.height
  pub each : (i : ℕ) (m : Member) → member_at w i ≡ Some m → HasCertified r after p block i
  pub near : OneViewOn w after

-- the honest member is live, knows the proposal to be finalized, and holds its block
pub record KnowsFinal (r : Rules) (w : World) (p : Proposal) (b : Block) (i : ℕ) : Type 0 where
  pub member : Member
  pub there : member_at w i ≡ Some member
  pub live : IsTrue member.live
  pub finalized : IsTrue (has_cert (member_notes member) (Finalize p))
  pub holds : held r (member_notes member) p.payload ≡ Some b
  -- it knows of no finalization in a later view of the epoch
  pub latest : (q : Proposal) → IsTrue (has_cert (member_notes member) (Finalize q))
      → q.epoch ≡ p.epoch → q.view ≤ p.view

-- such lines alone lead without a clash to a world in which each honest member knows the block to be
-- final
pub record ComeToFinal (r : Rules) (w : World) (allowed : Line → Bool) (p : Proposal)
    (b : Block) : Type 0 where
  pub lines : List Line
  pub are : AllByRecursion (λ line. IsTrue (allowed line)) lines
  pub after : World
  pub ends : outcome r w lines ≡ Ends after
  pub each : (i : ℕ) (m : Member) → member_at w i ≡ Some m → KnowsFinal r after p b i
  pub near : OneViewOn w after

-- the honest member can hand out what it still has to hand out up to that height, and nothing has
-- come to it since its start
pub record HoldsUpTo (r : Rules) (w : World) (top : ℕ) (i : ℕ) : Type 0 where
  pub member : Member
  pub there : member_at w i ≡ Some member
  pub can : CanHandUpTo r member top
  pub nothing : member.came ≡ nothing_came

-- such lines alone lead without a clash to a world in which each honest member holds what it still
-- has to hand out up to that height
pub record ComeToHold (r : Rules) (w : World) (allowed : Line → Bool) (top : ℕ) : Type 0 where
  pub lines : List Line
  pub are : AllByRecursion (λ line. IsTrue (allowed line)) lines
  pub after : World
  pub ends : outcome r w lines ≡ Ends after
  pub each : (i : ℕ) (m : Member) → member_at w i ≡ Some m → HoldsUpTo r after top i
  pub near : OneViewOn w after
