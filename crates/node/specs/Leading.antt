-- Which commitments notes lead to, as it is kept.
use Rattle.std.specs.Prelude.{◌≡◌, ℕ, ◌&&◌, ◌||◌, ◌+◌, ◌-◌, ◌≤◌, ◌++◌, Bool, List, None, Option, Some, false, filter_map, if◌then◌else◌, max, nat_lt, not, unwrap_or}
use Rattle.std.specs.List.{list_any}
use Rattle.std.specs.Map.{lookup}
use Rattle.cw_types.specs.Same.{same_commitment}
use Rattle.cw_types.specs.declared.commitment.Commitment.{Commitment}
use Rattle.cw_types.specs.declared.note.Note.{Note}
use Rattle.cw_rules.specs.Accepted.{State}
use Rattle.cw_rules.specs.Held.{greatest_prune, next}
use Rattle.cw_rules.specs.Notes.{has_block}
use Rattle.cw_rules.specs.Rules.{Rules}
use Rattle.cw_rules.specs.Sends.{leads}
use Rattle.node.specs.declared.leads.Lead.{Lead}
use Rattle.node.specs.declared.leads.Led.{Led}

-- nothing leads there
abbrev pub no_lead : Led
no_lead = record { by_cert = false; above = 0 }

-- both lead there
abbrev pub merge : Led → Led → Led
merge a b = record { by_cert = a.by_cert || b.by_cert; above = max a.above b.above }

-- a certificate leads there, or a block above that height
abbrev pub is_above : ℕ → Led → Bool
is_above height l = l.by_cert || nat_lt height l.above

-- where a note leads to, of certificates and of blocks above that height
abbrev pub lead_at : ℕ → Lead → Option Commitment
lead_at height l = if is_above height l.by then Some l.to else None

-- what leads to a commitment, with one note more
abbrev pub with_lead : Led → Lead → Commitment → Led
with_lead led l c = if same_commitment c l.to then merge led l.by else led

-- what a map has of a commitment
abbrev pub led_to : List (Commitment × Led) → Commitment → Led
led_to entries c = unwrap_or (lookup (same_commitment c) entries) no_lead

-- so one leads to the commitment, of certificates and of blocks above that height
abbrev pub is_led : List (Commitment × Led) → ℕ → Commitment → Bool
is_led entries height c = is_above height (led_to entries c)

-- The map stands for the notes: at each height, but for those below which blocks are hidden, it
-- tells to what they lead.
abbrev pub IsLedBy : Rules → List Note → List (Commitment × Led) → Type 0
IsLedBy r notes entries =
    (c : Commitment) (height : ℕ) → greatest_prune notes ≤ height + 1
    → is_led entries height c
    ≡ list_any (same_commitment c) (filter_map (leads r notes height) notes)

-- the height above which blocks lead to their parents: all at or below it are handed out or hidden
abbrev pub lead_height : State → ℕ
lead_height s = max (next s) (greatest_prune s.notes - 1)

-- the commitment has no noted block, and nothing led there above that height
abbrev pub is_new : List Note → List (Commitment × Led) → ℕ → Commitment → Bool
is_new notes entries height c = not (has_block notes c) && not (is_led entries height c)

-- the state goes on from an earlier one by more notes, no height is to be handed out again, and the
-- map stands for the notes before
pub record GoesOnFrom (r : Rules) (old now : State)
    (entries : List (Commitment × Led)) : Type 0 where
  pub more : List Note
  pub notes : now.notes ≡ old.notes ++ more
  pub rises : next old ≤ next now
  pub led : IsLedBy r old.notes entries
