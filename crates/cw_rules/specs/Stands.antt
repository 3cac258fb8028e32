-- Which votes stand among members of whom some are faulty, and what an honest member's notes keep.
use Rattle.std.specs.Prelude.{[], ℕ, ⊤, ◌++◌, ◌<◌, ◌∷◌, ◌≡◌, ◌≤◌, ◌⊎◌, Bool, IsSome, IsTrue, List, None, Option, Some, count_by, false, is_none, slice_get, true}
use Rattle.std.specs.Option.{option_map_or}
use Rattle.cw_types.specs.Epochs.{Epochs, members_in, size}
use Rattle.cw_types.specs.Numbers.{max_faults, quorum}
use Rattle.cw_types.specs.Votes.{vote_epoch}
use Rattle.cw_types.specs.declared.note.Note.{Note}
use Rattle.cw_types.specs.declared.vote.Proposal.{Proposal}
use Rattle.cw_types.specs.declared.vote.Vote.{Vote}
use Rattle.cw_types.specs.declared.vote.Vote.TheVariants.{Finalize, Notarize, Nullify}
use Rattle.cw_rules.specs.Fits.{fits}
use Rattle.cw_rules.specs.Notes.{has_begun, has_cert, has_certified, has_vote, nullified, settler}

-- the members by number: an honest one with its notes, a faulty one without
abbrev pub Members : Type 0
Members = List (Option (List Note))

-- a faulty member backs every vote, an honest one those among its notes
abbrev pub backs : Vote → Option (List Note) → Bool
backs v None = true
backs v (Some notes) = has_vote notes v

-- the member of that number backs the vote
abbrev pub backs_at : Members → Vote → ℕ → Bool
backs_at members v i = option_map_or (backs v) (slice_get members i) false

-- the member of that number is faulty
abbrev pub is_faulty_at : Members → ℕ → Bool
is_faulty_at members i = option_map_or is_none (slice_get members i) false

-- a quorum of the members of the vote's epoch backs it
abbrev pub Stands : Epochs → Members → Vote → Type 0
Stands x members v =
    quorum (size x (vote_epoch v)) ≤ count_by (backs_at members v) (members_in x (vote_epoch v))

-- of each epoch's members, at least four, at most f are faulty
pub record AreFew (x : Epochs) (members : Members) : Type 0 where
  pub enough : (epoch : ℕ) → 4 ≤ size x epoch
  pub few : (epoch : ℕ)
      → count_by (is_faulty_at members) (members_in x epoch) ≤ max_faults (size x epoch)

-- the proposals on the way lead from the first down to the last, each to one of the same epoch that
-- stands notarized in its parent view
abbrev pub LeadsTo : Epochs → Members → Proposal → List Proposal → Proposal → Type 0
LeadsTo x members q [] p = q ≡ p
LeadsTo x members q (r ∷ way) p =
    Stands x members (Notarize r) × (r.epoch ≡ q.epoch) × (r.view ≡ q.parent)
    × LeadsTo x members r way p

-- q descends from p
abbrev pub Descends : Epochs → Members → Proposal → Proposal → Type 0
Descends x members q p = (way : List Proposal) × LeadsTo x members q way p

-- view 0 of an epoch is settled where the epoch has begun, and by nothing else; each other view by
-- a proposal of it
abbrev pub IsSettled : List Note → ℕ → ℕ → Type 0
IsSettled notes epoch view =
    ((view ≡ 0) × IsTrue (has_begun notes epoch)) ⊎ ((0 < view) × IsSome (settler notes epoch view))

-- each of the views strictly between is nullified
abbrev pub AreNullified : List Note → ℕ → ℕ → ℕ → Type 0
AreNullified notes epoch low high =
    (view : ℕ) → low < view → view < high → IsTrue (nullified notes epoch view)

-- what a note rests on among the notes before it, whatever it means that the block of a proposal
-- fits
abbrev pub RestsOn : (List Note → Proposal → Bool) → List Note → Note → Type 0
-- a vote to notarize: a parent below it whose view is settled, and each view between is nullified
RestsOn fits before (Note.Vote (Notarize p)) =
    (p.parent < p.view) × IsSettled before p.epoch p.parent
    × AreNullified before p.epoch p.parent p.view
-- a vote to finalize: the proposal is certified
RestsOn fits before (Note.Vote (Finalize p)) = IsTrue (has_certified before p)
-- what is certified: it is notarized, and its block fits
RestsOn fits before (Note.Certified p) =
    IsTrue (has_cert before (Notarize p)) × IsTrue (fits before p)
RestsOn fits before _ = ⊤

-- R holds of each note and those before it
abbrev pub EachAfter : (List Note → Note → Type 0) → List Note → List Note → Type 0
EachAfter R before [] = ⊤
EachAfter R before (note ∷ notes) = R before note × EachAfter R (before ++ note ∷ []) notes

-- what an honest member's notes keep among these members
pub record AreKept (x : Epochs) (fits : List Note → Proposal → Bool) (members : Members)
    (notes : List Note) : Type 0 where
  -- no two different votes to notarize in one view of an epoch
  pub one_notarize : (p q : Proposal) → IsTrue (has_vote notes (Notarize p))
      → IsTrue (has_vote notes (Notarize q)) → p.epoch ≡ q.epoch → p.view ≡ q.view → p ≡ q
  -- never a vote to nullify a view and one to finalize in it
  pub not_both : (p : Proposal) → IsTrue (has_vote notes (Finalize p))
      → IsTrue (has_vote notes (Nullify p.epoch p.view)) → ⊥
  -- the vote of each noted certificate stands
  pub certs_stand : (v : Vote) → IsTrue (has_cert notes v) → Stands x members v
  -- each note comes after what it rests on
  pub rests : EachAfter (RestsOn fits) [] notes

-- of each epoch's members at most f are faulty, and each member that isn't keeps its notes so
pub record AreLawful (x : Epochs) (fits : List Note → Proposal → Bool)
    (members : Members) : Type 0 where
  pub faults : AreFew x members
  pub honest : (i : ℕ) (notes : List Note) → slice_get members i ≡ Some (Some notes)
      → AreKept x fits members notes
