-- What the leader of a view offers, and who has voted for it.
use Rattle.std.specs.Prelude.{ℕ, ◌≡◌, IsFalse, IsTrue, List, Some}
use Rattle.std.specs.List.{AllByRecursion}
use Rattle.cw_types.specs.Block.{Block}
use Rattle.cw_types.specs.Epochs.{is_member, leader}
use Rattle.cw_types.specs.declared.commitment.Commitment.{Commitment}
use Rattle.cw_types.specs.declared.vote.Proposal.{Proposal}
use Rattle.cw_types.specs.declared.vote.Vote.TheVariants.{Notarize}
use Rattle.cw_rules.specs.Chains.{Ends, outcome}
use Rattle.cw_rules.specs.Direct.{proposed_block}
use Rattle.cw_rules.specs.Fits.{block_fits}
use Rattle.cw_rules.specs.Held.{held}
use Rattle.cw_rules.specs.Notes.{has_vote}
use Rattle.cw_rules.specs.Owed.{has_closed}
use Rattle.cw_rules.specs.Rules.{Rules}
use Rattle.cw_rules.specs.Step.{Member, member_notes}
use Rattle.cw_rules.specs.World.{Line, World, member_at}
use Rattle.cw_progress.specs.Going.{helps, shows_twins}
use Rattle.cw_progress.specs.Views.{IsInView}

-- the application accepts a block of this payload over each block
abbrev pub IsWelcome : Rules → List ℕ → Type 0
IsWelcome r payload =
    (p : Proposal) (c : Commitment) (a : Block)
    → IsTrue (r.accepts (proposed_block r p c a payload) a)

-- lines that help show twins
pub record ComesToTwins (r : Rules) (w : World) (payload : List ℕ) : Type 0 where
  pub lines : List Line
  pub are : AllByRecursion (λ line. IsTrue (helps w payload line)) lines
  pub shows : IsTrue (shows_twins r w payload lines)

-- the honest member is live in the proposal's view of the first epoch, has voted to notarize it,
-- and has cast no vote that ends that view
pub record HasBacked (w : World) (p : Proposal) (i : ℕ) : Type 0 where
  pub in_view : IsInView w i p.view
  pub voted : IsTrue (has_vote (member_notes in_view.member) (Notarize p))
  pub unclosed : IsFalse (has_closed (member_notes in_view.member) 0 p.view)

-- the leader of that view of the first epoch has voted for the proposal, and holds its block, which
-- is one for it and has this payload
pub record IsOffer (r : Rules) (w : World) (payload : List ℕ) (view : ℕ)
    (p : Proposal) : Type 0 where
  pub epoch_is : p.epoch ≡ 0
  pub view_is : p.view ≡ view
  pub backed : HasBacked w p (leader r.epochs 0 view)
  pub block : Block
  pub payload_is : block.payload ≡ payload
  pub holds : held r (member_notes backed.in_view.member) p.payload ≡ Some block
  pub fits : IsTrue (block_fits r (member_notes backed.in_view.member) p)

-- lines that help lead without a clash to a world with an offer in that view
pub record ComeToOffer (r : Rules) (w : World) (payload : List ℕ) (view : ℕ) : Type 0 where
  pub lines : List Line
  pub are : AllByRecursion (λ line. IsTrue (helps w payload line)) lines
  pub after : World
  pub ends : outcome r w lines ≡ Ends after
  pub proposal : Proposal
  pub offer : IsOffer r after payload view proposal
  pub each : (i : ℕ) (m : Member) → member_at w i ≡ Some m → IsInView after i view

-- so, and each honest member of the first epoch has voted for what is offered
pub record ComeToVotes (r : Rules) (w : World) (payload : List ℕ) (view : ℕ) : Type 0 where
  pub offered : ComeToOffer r w payload view
  pub voted : (i : ℕ) (m : Member) → member_at w i ≡ Some m
      → IsTrue (is_member r.epochs 0 i) → HasBacked offered.after offered.proposal i
