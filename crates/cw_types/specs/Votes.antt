-- Where a vote is cast and on what, and which votes may be counted.
use Rattle.std.specs.Prelude.{ℕ, ◌-◌, ◌^◌, nat_lt, ◌&&◌, Bool, Option, Some, None}
use Rattle.cw_types.specs.declared.vote.Proposal.{Proposal}
use Rattle.cw_types.specs.declared.vote.Vote.{Vote}
use Rattle.cw_types.specs.declared.vote.Vote.TheVariants.{Notarize, Nullify, Finalize}

-- the epoch that a vote is cast in
abbrev pub vote_epoch : Vote → ℕ
vote_epoch (Notarize p) = p.epoch
vote_epoch (Nullify epoch view) = epoch
vote_epoch (Finalize p) = p.epoch

-- the view that a vote is cast in
abbrev pub vote_view : Vote → ℕ
vote_view (Notarize p) = p.view
vote_view (Nullify epoch view) = view
vote_view (Finalize p) = p.view

-- the proposal that a vote is on
abbrev pub proposal_of : Vote → Option Proposal
proposal_of (Notarize p) = Some p
proposal_of (Nullify epoch view) = None
proposal_of (Finalize p) = Some p

-- the proposal of a vote to finalize
abbrev pub finalized : Vote → Option Proposal
finalized (Finalize p) = Some p
finalized _ = None

-- a view from 1 to 2^64 - 2
abbrev pub is_view : ℕ → Bool
is_view view = nat_lt 0 view && nat_lt view (2 ^ 64 - 1)

-- a proposal of such a view, over an earlier one
abbrev pub is_ordered : Proposal → Bool
is_ordered p = is_view p.view && nat_lt p.parent p.view

-- a vote may be counted: it is of such a view, and its proposal of such views
abbrev pub well_formed : Vote → Bool
well_formed (Notarize p) = is_ordered p
well_formed (Nullify epoch view) = is_view view
well_formed (Finalize p) = is_ordered p
