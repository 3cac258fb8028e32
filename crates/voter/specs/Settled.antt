-- The last view that is settled, below some view.
use Rattle.std.specs.Prelude.{ℕ, ◌==◌, List, None, Option, if◌then◌else◌, option_map, suc, zero}
use Rattle.std.specs.Option.{option_or}
use Rattle.cw_types.specs.declared.commitment.Commitment.{Commitment}
use Rattle.cw_types.specs.declared.note.Note.{Note}
use Rattle.cw_rules.specs.Notes.{settler}

-- the greatest number below the top at which there is something, with it
abbrev pub last_some : {X : Type 0} → (ℕ → Option X) → ℕ → Option (ℕ × X)
last_some at zero = None
last_some at (suc n) = option_or (option_map (λ x. (n, x)) (at n)) (last_some at n)

-- what is settled for a view of the epoch above 0
abbrev pub later_settled : List Note → ℕ → ℕ → Option Commitment
later_settled notes epoch view =
    if view == 0 then None else option_map (λ p. p.payload) (settler notes epoch view)
