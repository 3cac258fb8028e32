-- The first finalization on members' disks that shows a height, with the blocks down to it.
use Rattle.std.specs.Prelude.{[], ℕ, zero, suc, ◌==◌, ◌∷◌, Bool, List, None, Option, Some, if◌then◌else◌, option_and_then, option_map}
use Rattle.cw_types.specs.Block.{Block}
use Rattle.cw_types.specs.Votes.{finalized}
use Rattle.cw_types.specs.declared.commitment.Commitment.{Commitment}
use Rattle.cw_types.specs.declared.note.Note.{Note}
use Rattle.cw_types.specs.declared.vote.Cert.{Cert}
use Rattle.cw_types.specs.declared.vote.Vote.{Vote}
use Rattle.cw_rules.specs.Accepted.{first_some, is_valid}
use Rattle.cw_rules.specs.Held.{held, parent_of}
use Rattle.cw_rules.specs.Rules.{Rules}
use Rattle.cw_rules.specs.Step.{Member, member_notes}
use Rattle.run_light.specs.declared.search.Shown.{Shown}

-- the blocks from b down to the one of that height, by held parents, in at most so many steps
abbrev pub held_path_within : Rules → List Note → ℕ → ℕ → Block → Option (List Block)
held_path_within r notes zero height b = if b.height == height then Some (b ∷ []) else None
held_path_within r notes (suc steps) height b =
    if b.height == height then Some (b ∷ [])
    else option_map (λ path. b ∷ path)
    (option_and_then (held_path_within r notes steps height) (parent_of r notes b))

-- the blocks from the held one of a commitment down to the one of that height. Heights fall by one,
-- so as many steps are enough
abbrev pub path_to : Rules → List Note → ℕ → Commitment → Option (List Block)
path_to r notes height c =
    option_and_then (λ b. held_path_within r notes b.height height b) (held r notes c)

-- a valid finalization whose held payload reaches that height
abbrev pub shown_of : Rules → (ℕ → Vote → Bool) → ℕ → List Note → Cert → Option Shown
shown_of r signed height notes s =
    if is_valid r signed s
    then option_map (λ path. record { cert = s; path = path })
    (option_and_then (λ p. path_to r notes height p.payload) (finalized s.vote))
    else None

-- what a note shows of that height
abbrev pub shown_by_note : Rules → (ℕ → Vote → Bool) → ℕ → List Note → Note → Option Shown
shown_by_note r signed height notes (Note.Cert s) = shown_of r signed height notes s
shown_by_note r signed height notes _ = None

-- the first that a member's notes show
abbrev pub first_shown : Rules → (ℕ → Vote → Bool) → ℕ → List Note → Option Shown
first_shown r signed height notes = first_some (shown_by_note r signed height notes) notes

-- the first that some members show, one after another
abbrev pub found_in : Rules → (ℕ → Vote → Bool) → ℕ → List Member → Option Shown
found_in r signed height members =
    first_some (λ m. first_shown r signed height (member_notes m)) members
