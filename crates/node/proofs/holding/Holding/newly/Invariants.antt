use Rattle.std.proofs.Common.{◌≡◌, filter, take}
use Rattle.std.specs.List.{filter_map}
use Rattle.node.specs.Leading.{is_new, lead_at}
use Rattle.node.specs.Store.{stored_notes}
use Rattle.node.proofs.holding.Holding.newly.Given as goal

abbrev pub invariant-loop-lead : goal.invariant-loop-lead
invariant-loop-lead g l =
    l.new.items
    ≡ filter (is_new (stored_notes l.self.store) l.map.led.entries l.height)
    (filter_map (lead_at l.next) (take l.lead-index l.leads))
