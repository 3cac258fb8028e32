use Rattle.std.proofs.Common.{◌≡◌, ◌||◌, ℕ, take}
use Rattle.std.specs.List.{filter_map, list_any}
use Rattle.cw_types.specs.Same.{same_commitment}
use Rattle.cw_types.specs.declared.commitment.Commitment.{Commitment}
use Rattle.node.specs.Leading.{is_led, lead_at}
use Rattle.node.proofs.leads.LeadMap.add_all.Given as goal

abbrev pub invariant-loop-lead : goal.invariant-loop-lead
invariant-loop-lead l =
    (c : Commitment) (height : ℕ) → is_led l.self.led.entries height c
    ≡ (is_led l.initial.self.led.entries height c
    || list_any (same_commitment c) (filter_map (lead_at height) (take l.lead-index l.leads)))
