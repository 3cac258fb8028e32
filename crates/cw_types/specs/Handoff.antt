-- What becomes of a payload that is made ready.
use Rattle.std.specs.Prelude.{Bool, true, false}
use Rattle.cw_types.specs.declared.handoff.Handoff.{Handoff}
use Rattle.cw_types.specs.declared.handoff.Handoff.TheVariants.{Vote, Stage, Wait}

-- there is nothing yet
abbrev pub is_wait : {D : Type 0} → Handoff D → Bool
is_wait (Vote d) = false
is_wait (Stage d) = false
is_wait Wait = true

-- the same variant, whose payload the function makes of the first one's
abbrev pub IsMapped : {D E : Type 0} → (makes : D → E → Type 0) → Handoff D → Handoff E → Type 0
IsMapped makes (Vote d) (Vote e) = makes d e
IsMapped makes (Stage d) (Stage e) = makes d e
IsMapped makes Wait Wait = Unit {0}
IsMapped makes _ _ = ⊥

-- the payload, where there is one, passes
abbrev pub ForPayload : {D : Type 0} → (D → Type 0) → Handoff D → Type 0
ForPayload P (Vote d) = P d
ForPayload P (Stage d) = P d
ForPayload P Wait = Unit {0}
