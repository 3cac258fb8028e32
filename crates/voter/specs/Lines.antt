-- What is named by what came and by notes, and which of it waits.
use Rattle.std.specs.Prelude.{◌<◌, ◌-◌, ◌^◌, ◌≡◌, Bool, List, map, true, vec_capacity, vec_len}
use Rattle.std.specs.Map.{lookup}
use Rattle.std.specs.Option.{is_some}
use Rattle.note_scans.specs.Keys.{same_key}
use Rattle.note_scans.specs.declared.key.VoteKey.{VoteKey}
use Rattle.voter.specs.Lineup.{IsLineup}
use Rattle.voter.specs.declared.lineup.Lineup.{Lineup}
use Rattle.voter.specs.declared.lines.Lines.{Lines}

-- what came and the notes name these, and of either those wait that pass
pub record AreLines {X : Type 0} (key : X → VoteKey) (same : X → X → Bool) (passes : X → Bool)
    (came noted : List X) (l : Lines X) : Type 0 where
  pub of_came : IsLineup same_key key same passes came l.came.places.entries l.came.count
      l.came.waiting.items
  pub of_notes : IsLineup same_key key same passes noted l.noted.places.entries l.noted.count
      l.noted.waiting.items

-- there is room for one more that waits
abbrev pub HasSpare : {X : Type 0} → Lineup X → Type 0
HasSpare l = vec_len l.waiting < vec_capacity l.waiting

-- and its key is there
pub record IsPrepared {X : Type 0} (key : VoteKey) (l : Lineup X) : Type 0 where
  pub there : is_some (lookup (same_key key) l.places.entries) ≡ true
  pub few : l.count < 2 ^ 64 - 1
  pub room : HasSpare l

-- it can be named by what comes
pub record IsComing {X : Type 0} (key : VoteKey) (l : Lines X) : Type 0 where
  pub of_came : IsPrepared key l.came
  pub of_notes : HasSpare l.noted

-- it can be named by a note
pub record IsNoting {X : Type 0} (key : VoteKey) (l : Lines X) : Type 0 where
  pub of_came : HasSpare l.came
  pub of_notes : IsPrepared key l.noted

-- those that wait, in their order
abbrev pub items_of : {X : Type 0} → Lineup X → List X
items_of l = map (λ at. at.1) l.waiting.items
