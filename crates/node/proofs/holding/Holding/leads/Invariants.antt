use Rattle.std.proofs.Common.{◌≡◌, ℕ, take}
use Rattle.std.specs.List.{filter_map}
use Rattle.cw_rules.specs.Sends as rule
use Rattle.node.specs.Holding.{rules_of}
use Rattle.node.specs.Leading.{lead_at}
use Rattle.node.specs.Store.{stored_notes}
use Rattle.node.proofs.holding.Holding.leads.Given as goal

abbrev pub invariant-loop-note : goal.invariant-loop-note
invariant-loop-note g l =
    let r = rules_of g.H.Hasher.digest_of g.A.Application.accepts l.self in
    (height : ℕ) → filter_map (lead_at height) l.leads.items
    ≡ filter_map (rule.leads r (stored_notes l.self.store) height) (take l.note-index l.notes)
