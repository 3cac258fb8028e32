-- What notes say of votes, proposals, views and epochs, by key, in place of searches.
use Rattle.std.specs.Prelude.{ℕ, ◌≡◌, Bool, List, None, Option, Some, false, filter_map, if◌then◌else◌, max, nat_eq, option_and_then, option_map, true, unwrap_or}
use Rattle.std.specs.List.{list_any}
use Rattle.std.specs.Map.{lookup}
use Rattle.std.specs.Option.{is_some, option_map_or}
use Rattle.cw_types.specs.Votes.{finalized}
use Rattle.cw_types.specs.declared.commitment.Commitment.{Commitment}
use Rattle.cw_types.specs.declared.note.Note.{Note}
use Rattle.cw_types.specs.declared.vote.Proposal.{Proposal}
use Rattle.cw_types.specs.declared.vote.Vote.{Vote}
use Rattle.cw_types.specs.declared.vote.Vote.TheVariants.{Finalize, Notarize, Nullify}
use Rattle.cw_rules.specs.Accepted.{first_some}
use Rattle.cw_rules.specs.Held.{greatest_prune}
use Rattle.cw_rules.specs.Notes.{ended, entered, epoch_of, greatest}
use Rattle.voter.specs.Heights.{HasBlockHeights, IsBlockThere}
use Rattle.note_scans.specs.Keys.{in_view, key_of, keyed, same_key}
use Rattle.voter.specs.Runs.{HaveRuns, IsEndPrepared}
use Rattle.voter.specs.declared.facts.Facts.{Facts}
use Rattle.note_scans.specs.declared.key.VoteKey.{VoteKey}

-- what a vote of the member's own says of its view: that it voted there, or that it closed it
abbrev pub own_fact : Vote → VoteKey
own_fact (Notarize p) = in_view 4 p.epoch p.view
own_fact (Nullify epoch view) = in_view 5 epoch view
own_fact (Finalize p) = in_view 5 p.epoch p.view

-- what a note says: a vote, that a vote has a certificate, or that a proposal is certified
abbrev pub fact_of : Note → Option VoteKey
fact_of (Note.Vote v) = Some (own_fact v)
fact_of (Note.Cert s) = Some (key_of s.vote)
fact_of (Note.Certified p) = Some (keyed 3 p)
fact_of _ = None

-- the note says it
abbrev pub note_says : VoteKey → Note → Bool
note_says q note = option_map_or (same_key q) (fact_of note) false

-- the map says it
abbrev pub said_at : VoteKey → List (VoteKey × Bool) → Bool
said_at q entries = unwrap_or (lookup (same_key q) entries) false

-- a map says what the notes say
abbrev pub HasSaid : List Note → List (VoteKey × Bool) → Type 0
HasSaid notes entries = (q : VoteKey) → said_at q entries ≡ list_any (note_says q) notes

-- the map has the key of what a note says
abbrev pub IsThere : Note → List (VoteKey × Bool) → Type 0
IsThere note entries =
    (q : VoteKey) → fact_of note ≡ Some q → is_some (lookup (same_key q) entries) ≡ true

-- ---- what is settled

-- what the view of a proposal is settled by
abbrev pub settled_by : Proposal → VoteKey × Commitment
settled_by p = (in_view 6 p.epoch p.view, p.payload)

-- what a note settles: a view, or what an epoch builds on
abbrev pub settles : Note → Option (VoteKey × Commitment)
settles (Note.Certified p) = Some (settled_by p)
settles (Note.Cert s) = option_map settled_by (finalized s.vote)
settles (Note.Epoch epoch c) = Some (in_view 7 epoch 0, c)
settles _ = None

-- what a note settles at that key
abbrev pub settled_at : VoteKey → Note → Option Commitment
settled_at q note =
    option_and_then (λ e. if same_key q e.0 then Some e.1 else None) (settles note)

-- a map has what is first settled, and nothing else
abbrev pub HasFirstSettled : List Note → List (VoteKey × Commitment) → Type 0
HasFirstSettled notes entries =
    (q : VoteKey) → lookup (same_key q) entries ≡ first_some (settled_at q) notes

-- ---- what is over

-- the view that a vote ends, once its certificate is noted, and its epoch
abbrev pub ending_vote : Vote → Option (ℕ × ℕ)
ending_vote (Notarize p) = None
ending_vote (Nullify epoch view) = Some (epoch, view)
ending_vote (Finalize p) = Some (p.epoch, p.view)

-- the view that a note ends, and its epoch
abbrev pub ending : Note → Option (ℕ × ℕ)
ending (Note.Certified p) = Some (p.epoch, p.view)
ending (Note.Cert s) = ending_vote s.vote
ending _ = None

-- the greatest view of an epoch that is over, else 0
abbrev pub greatest_ended : List Note → ℕ → ℕ
greatest_ended notes epoch = greatest (filter_map (ended epoch) notes)

-- the number at an epoch, else 0
abbrev pub ended_at : ℕ → List (ℕ × ℕ) → ℕ
ended_at epoch entries = unwrap_or (lookup (nat_eq epoch) entries) 0

-- a map has the greatest view of each epoch that is over
abbrev pub HasEnded : List Note → List (ℕ × ℕ) → Type 0
HasEnded notes entries = (epoch : ℕ) → ended_at epoch entries ≡ greatest_ended notes epoch

-- the map has the epoch in which a note ends a view
abbrev pub IsEndThere : Note → List (ℕ × ℕ) → Type 0
IsEndThere note entries =
    (e : ℕ × ℕ) → ending note ≡ Some e → is_some (lookup (nat_eq e.0) entries) ≡ true

-- the greater of an epoch and the one that a note enters
abbrev pub entered_with : ℕ → Note → ℕ
entered_with epoch note = option_map_or (λ e. max epoch e) (entered note) epoch

-- ---- together

-- the maps and the numbers say what the notes say
pub record HaveFacts (notes : List Note) (facts : Facts) : Type 0 where
  pub saying : HasSaid notes facts.said.by_key.entries
  pub settling : HasFirstSettled notes facts.settled.by_key.entries
  pub ending_views : HasEnded notes facts.ended.by_epoch.entries
  pub running : HaveRuns notes facts.runs.by_end.entries
  pub entering : facts.epoch ≡ epoch_of notes
  pub standing : HasBlockHeights notes facts.heights.above.entries
  pub pruning : facts.prune ≡ greatest_prune notes

-- the maps have the keys of what a note says
pub record AreThere (note : Note) (facts : Facts) : Type 0 where
  pub said : IsThere note facts.said.by_key.entries
  pub ended : IsEndThere note facts.ended.by_epoch.entries
  pub run : IsEndPrepared note facts.runs.by_end.entries
  pub standing : IsBlockThere note facts.heights.above.entries
