-- What honest members hand out, once they acknowledge what they handed out before.
use Rattle.std.specs.Prelude.{[], ℕ, ◌++◌, ◌<◌, ◌∷◌, ◌≡◌, ◌≤◌, ◌⊎◌, Bool, IsSome, IsTrue, List, None, Some, false, length, true}
use Rattle.std.specs.List.{AllByRecursion}
use Rattle.cw_types.specs.declared.event.Handed.{Handed}
use Rattle.cw_rules.specs.Chains.{Ends, outcome}
use Rattle.cw_rules.specs.Direct.{least}
use Rattle.cw_rules.specs.Held.{at_height, greatest_floor, greatest_prune, last_ack, next, pending}
use Rattle.cw_rules.specs.Reached.{In}
use Rattle.cw_rules.specs.Rules.{Rules}
use Rattle.cw_rules.specs.Step.{Member, member_notes, state_of}
use Rattle.cw_rules.specs.World.{Ask, Do, Line, World, happens, member_at, run}
use Rattle.cw_progress.specs.Going.{handed_of, known_top}

-- the line is an acknowledgement
abbrev pub is_ack : Line → Bool
is_ack (Do i Ask.Ack) = true
is_ack _ = false

-- the member's acknowledgement is taken: it notes the least height that is pending, gives up no
-- height and lets no block go, brings no clash and changes nobody else. After it as many blocks are
-- pending as may be, or the next height isn't reached
pub record IsAckTaken (r : Rules) (w : World) (i : ℕ) (m : Member) : Type 0 where
  pub height : ℕ
  pub is_least : least (pending (state_of m)) ≡ Some height
  pub after : Member
  pub there : member_at (happens r w (Do i Ask.Ack)) i ≡ Some after
  pub live : IsTrue after.live
  pub acked : last_ack (member_notes after) ≡ Some height
  pub floor : greatest_floor (member_notes after) ≡ greatest_floor (member_notes m)
  pub prune : greatest_prune (member_notes after) ≡ greatest_prune (member_notes m)
  pub full : (r.backlog ≤ length (pending (state_of after)))
      ⊎ (at_height r (member_notes after) (next (state_of after)) ≡ None)
  pub ends : outcome r w (Do i Ask.Ack ∷ []) ≡ Ends (happens r w (Do i Ask.Ack))
  pub others : (j : ℕ) → (i ≡ j → ⊥)
      → member_at (happens r w (Do i Ask.Ack)) j ≡ member_at w j

-- the member hands out a block of that height in these lines
abbrev pub IsHandedIn : Rules → World → ℕ → List Line → ℕ → Type 0
IsHandedIn r w i lines height =
    (x : Handed) × In x (handed_of r w i lines) × (x.height ≡ height)

-- the live member knows a block of that height to be final, which it didn't give up, and holds what
-- is below it: from the next height that it hands out on, each one up to there is reached
pub record CanHandUpTo (r : Rules) (m : Member) (top : ℕ) : Type 0 where
  pub live : IsTrue m.live
  pub not_given_up : greatest_floor (member_notes m) ≤ top
  pub reached : (h : ℕ) → next (state_of m) ≤ h → h ≤ top
      → IsSome (at_height r (member_notes m) h)

-- by its own acknowledgements alone, without a clash, the member hands out each height from its
-- next one up to that one, and nobody else changes
pub record HandsUpTo (r : Rules) (w : World) (i : ℕ) (m : Member) (top : ℕ) : Type 0 where
  pub acks : List Line
  pub are : AllByRecursion (λ line. line ≡ Do i Ask.Ack) acks
  pub ends : outcome r w acks ≡ Ends (run r w acks)
  pub each : (h : ℕ) → next (state_of m) ≤ h → h ≤ top → IsHandedIn r w i acks h
  pub others : (j : ℕ) → (i ≡ j → ⊥) → member_at (run r w acks) j ≡ member_at w j

-- by acknowledgements alone, without a clash, each honest member hands out each height from its
-- next one up to that one
pub record AllHandUpTo (r : Rules) (w : World) (top : ℕ) : Type 0 where
  pub acks : List Line
  pub are : AllByRecursion (λ line. IsTrue (is_ack line)) acks
  pub ends : outcome r w acks ≡ Ends (run r w acks)
  pub each : (i : ℕ) (m : Member) → member_at w i ≡ Some m → (h : ℕ) → next (state_of m) ≤ h
      → h ≤ top → IsHandedIn r w i acks h

-- in these lines and by acknowledgements alone behind them, without a clash, each honest member
-- hands out a block above all that an honest member knew to be final before
pub record AllHandAbove (r : Rules) (w : World) (lines : List Line) : Type 0 where
  pub acks : List Line
  pub are : AllByRecursion (λ line. IsTrue (is_ack line)) acks
  pub ends : outcome r w (lines ++ acks) ≡ Ends (run r w (lines ++ acks))
  pub each : (i : ℕ) (m : Member) → member_at w i ≡ Some m
      → (x : Handed) × In x (handed_of r w i (lines ++ acks)) × (known_top r w < x.height)
